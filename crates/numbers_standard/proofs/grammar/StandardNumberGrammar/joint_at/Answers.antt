-- In radix 16 the first sign joins; else the one that the bought reader cuts at.
use Rattle.numbers_standard.proofs.Cuts.{joint_hex, joint_other}
use Rattle.numbers_standard.proofs.grammar.StandardNumberGrammar.joint_at.Goals as goal

pub returns-then-radix-eq-HEXADECIMAL_RADIX : goal.returns-then-radix-eq-HEXADECIMAL_RADIX
returns-then-radix-eq-HEXADECIMAL_RADIX c = joint_hex _ _ _ _ c.if-radix-eq-HEXADECIMAL_RADIX.true c.first_sign.ensures

pub returns : goal.returns
returns c = joint_other _ _ _ _ c.if-radix-eq-HEXADECIMAL_RADIX.false c.requires _ c.is_marker-marker.ensures c.to_sign.ensures
