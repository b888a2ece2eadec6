-- v is the value of the digits passed and at most 2^63, so the digits from each place on after v have the value of all. More digits make no
-- smaller value, so the first product past 2^63 decides.
use Rattle.digits.proofs.Integers.{value_more, value_end, digit_fits, product_fits, product_over, fit_large, fit_fits}
use mathlib.Core.Path.{refl, ◌∙◌}
use native.Mathlib.Omega.{arith}
use Rattle.digits.proofs.magnitude_at.Goals as goal

pub loop-i-init : goal.loop-i-init
loop-i-init c = (refl, omega arith)

pub overflow_sub-d : goal.overflow_sub-d
overflow_sub-d c = digit_fits _ _ c.digit-d.ensures

pub returns-then-d-radix : goal.returns-then-d-radix
returns-then-d-radix c =
    fit_large _
    (rw c.loop-i.invariant.0 (product_over _ _ _ _ _ c.requires.0
    c.loop-i-test.true c.digit-d.ensures c.if-d-radix.true))

pub overflow_mul-v : goal.overflow_mul-v
overflow_mul-v c = omega (arith, product_fits _ _ c.digit-d.ensures _ _ c.requires.0 c.if-d-radix.false)

pub overflow_add-v : goal.overflow_add-v
overflow_add-v c = omega (arith, product_fits _ _ c.digit-d.ensures _ _ c.requires.0 c.if-d-radix.false)

pub loop-i-preserved : goal.loop-i-preserved
loop-i-preserved c = (
  c.loop-i.invariant.0 ∙ value_more _ _ _ _ _ c.loop-i-test.true c.digit-d.ensures,
  product_fits _ _ c.digit-d.ensures _ _ c.requires.0 c.if-d-radix.false,
)

pub returns : goal.returns
returns c = rw (c.loop-i.invariant.0 ∙ value_end _ _ _ _ c.loop-i-test.false) (fit_fits _ c.loop-i.invariant.1)
