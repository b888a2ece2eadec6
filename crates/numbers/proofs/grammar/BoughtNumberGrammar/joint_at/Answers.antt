-- The first sign past the first byte.
use Rattle.numbers.proofs.Cuts.{cut_is}
use Rattle.numbers.proofs.grammar.BoughtNumberGrammar.joint_at.Goals as goal

pub returns : goal.returns
returns c = cut_is _ _ c.requires _ c.is_marker-marker.ensures _ c.to_sign.ensures
