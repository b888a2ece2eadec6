-- The bytes passed are digits of the radix, so from each place on the run ends where it ends from the start on, and all digits after v have the
-- value of all. That value has no more digits of radix 16 than the place says, so in a text that is short in any radix it fits.
use Rattle.digits.proofs.Digits.{run_hit, run_stop, run_end}
use Rattle.digits.proofs.Integers.{value_more, value_end}
use Rattle.digits.proofs.RadixRuns.{sixteen_some, radix_grows, radix_holds}
use mathlib.Core.Path.{refl, sym, ◌∙◌}
use native.Mathlib.Omega.{arith}
use Rattle.digits.proofs.short_run.Goals as goal

pub loop-i-init : goal.loop-i-init
loop-i-init c = (refl, refl, sixteen_some _)

pub returns-then-radix-d : goal.returns-then-radix-d
returns-then-radix-d c =
    let inv = c.loop-i.invariant in (
      sym (inv.0 ∙ run_stop _ _ _ _ c.loop-i-test.true c.digit-d.ensures c.if-radix-d.true),
      (λ h. absurd (omega (arith, c.loop-i-test.true))),
      inv.2,
    )

pub overflow_mul-v : goal.overflow_mul-v
overflow_mul-v c =
    let pre = c.requires in
    omega (arith, radix_holds _ _ _ _ pre.1 c.if-radix-d.false c.loop-i.invariant.2 (omega (arith, pre.0, c.loop-i-test.true)))

pub overflow_add-v : goal.overflow_add-v
overflow_add-v c =
    let pre = c.requires in
    omega (arith, radix_holds _ _ _ _ pre.1 c.if-radix-d.false c.loop-i.invariant.2 (omega (arith, pre.0, c.loop-i-test.true)))

pub loop-i-preserved : goal.loop-i-preserved
loop-i-preserved c =
    let inv = c.loop-i.invariant in (
      inv.0 ∙ run_hit _ _ _ _ c.loop-i-test.true c.digit-d.ensures c.if-radix-d.false,
      inv.1 ∙ value_more _ _ _ _ _ c.loop-i-test.true c.digit-d.ensures,
      radix_grows _ _ _ _ c.requires.1 c.if-radix-d.false inv.2,
    )

pub returns : goal.returns
returns c =
    let inv = c.loop-i.invariant in (
      sym (inv.0 ∙ run_end _ _ _ c.loop-i-test.false),
      (λ h. sym (inv.1 ∙ value_end _ _ _ _ c.loop-i-test.false)),
      inv.2,
    )
