-- The bytes passed are decimal digits, so from each place on the run ends where it ends from the start on, and after the digits passed it
-- has the value of all. That value has no more digits than the place says, so in a short text it fits.
use Rattle.digits.proofs.Digits.{decimal_hit, decimal_stop, run_end}
use Rattle.digits.proofs.DecimalRuns.{run_grows, run_holds, run_value_more, run_value_stop, run_value_end}
use Rattle.laws.proofs.Choice.{within_is}
use mathlib.Core.Path.{refl, sym, ◌∙◌}
use native.Mathlib.Omega.{arith}
use borrow.Author.Rules.{rules}
use Rattle.digits.proofs.decimal_run.Goals as goal

pub loop-i-init : goal.loop-i-init
loop-i-init c = (refl, refl, c.requires.1)

pub overflow_mul-v : goal.overflow_mul-v
overflow_mul-v c =
    let l = c.loop-i-test.true in
    let p = c.requires.0 in
    omega (arith, run_holds _ _ _ c.loop-i.invariant.2 (sym c.if-between.true ∙ c.between.ensures) (omega arith))

pub overflow_sub-v : goal.overflow_sub-v
overflow_sub-v c = (within_is _ _ _ (sym c.between.ensures ∙ c.if-between.true)).0

pub overflow_cast-v : goal.overflow_cast-v
overflow_cast-v c = let r = within_is _ _ _ (sym c.between.ensures ∙ c.if-between.true) in search rules

pub overflow_add-v : goal.overflow_add-v
overflow_add-v c =
    let l = c.loop-i-test.true in
    let p = c.requires.0 in
    omega (arith, run_holds _ _ _ c.loop-i.invariant.2 (sym c.if-between.true ∙ c.between.ensures) (omega arith))

pub loop-i-preserved : goal.loop-i-preserved
loop-i-preserved c =
    let inv = c.loop-i.invariant in
    let w = sym c.if-between.true ∙ c.between.ensures in (
      inv.0 ∙ decimal_hit _ _ c.loop-i-test.true w,
      inv.1 ∙ run_value_more _ _ _ c.loop-i-test.true w,
      run_grows _ _ _ inv.2 w,
    )

pub returns-else-between : goal.returns-else-between
returns-else-between c =
    let inv = c.loop-i.invariant in
    let w = sym c.if-between.false ∙ c.between.ensures in (
      sym (inv.0 ∙ decimal_stop _ _ c.loop-i-test.true w),
      sym (inv.1 ∙ run_value_stop _ _ _ c.loop-i-test.true w),
      inv.2,
    )

pub returns : goal.returns
returns c =
    let inv = c.loop-i.invariant in (
      sym (inv.0 ∙ run_end _ _ _ c.loop-i-test.false),
      sym (inv.1 ∙ run_value_end _ _ _ c.loop-i-test.false),
      inv.2,
    )
