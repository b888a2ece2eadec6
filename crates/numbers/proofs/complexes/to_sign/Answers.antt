-- No byte passed is a sign but after a marker, so from each place on, with the flag for the byte there, the first sign stands where it
-- stands from the start on.
use Rattle.digits.proofs.Digits.{is_sign_told, no_sign_told}
use Rattle.numbers.proofs.Cuts.{sign_nowhere, sign_passed, sign_found, sign_not}
use native.Mathlib.Omega.{arith}
use mathlib.Core.Path.{refl, sym, ◌∙◌}
use Rattle.numbers.proofs.complexes.to_sign.Goals as goal

pub loop-i-preserved-then-pass : goal.loop-i-preserved-then-pass
loop-i-preserved-then-pass c = (c.loop-i.invariant.0 ∙ sign_passed _ _ _ c.loop-i-test.true c.if-pass.true, omega arith)

pub returns-then-is_sign : goal.returns-then-is_sign
returns-then-is_sign c =
    sym
    (c.loop-i.invariant.0 ∙ sign_found _ _ _ c.loop-i-test.true c.if-pass.false (is_sign_told _ (sym c.if-is_sign.true ∙ c.is_sign.ensures)))

pub loop-i-preserved : goal.loop-i-preserved
loop-i-preserved c = (
  c.loop-i.invariant.0
      ∙ sign_not _ _ _ c.loop-i-test.true c.if-pass.false _
      (no_sign_told _ (sym c.if-is_sign.false ∙ c.is_sign.ensures)).0 (no_sign_told _ (sym c.if-is_sign.false ∙ c.is_sign.ensures)).1 c.is_marker-pass.ensures,
  omega arith,
)

pub loop-i-init : goal.loop-i-init
loop-i-init c = (refl, omega arith)

pub returns : goal.returns
returns c = omega (arith, c.loop-i.invariant.1, c.loop-i.invariant.0 ∙ sign_nowhere _ _ _ c.loop-i-test.false)
