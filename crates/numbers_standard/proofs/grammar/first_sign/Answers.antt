-- No byte passed is a sign, so from each place on the first sign stands where it stands from the start on.
use mathlib.Core.Path.{refl, sym, ◌∙◌}
use native.Mathlib.Omega.{arith}
use Rattle.laws.proofs.Runs.{span_end}
use Rattle.numbers_standard.proofs.Cuts.{sign_found, sign_not}
use Rattle.numbers_standard.proofs.grammar.first_sign.Goals as goal

pub loop-i-init : goal.loop-i-init
loop-i-init c = (refl, omega arith)

pub returns-then-is_sign : goal.returns-then-is_sign
returns-then-is_sign c = sym (c.loop-i.invariant.0 ∙ sign_found _ _ c.loop-i-test.true (sym c.if-is_sign.true ∙ c.is_sign.ensures))

pub loop-i-preserved : goal.loop-i-preserved
loop-i-preserved c = (c.loop-i.invariant.0 ∙ sign_not _ _ c.loop-i-test.true (sym c.if-is_sign.false ∙ c.is_sign.ensures), omega arith)

pub returns : goal.returns
returns c = omega (arith, c.loop-i.invariant.1, c.loop-i.invariant.0 ∙ span_end _ _ _ c.loop-i-test.false)
