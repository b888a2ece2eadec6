-- As for `digits::decimal_run`: from each place on the run ends where it ends from the start on, and after the digits passed it has the
-- value of all. A byte less 48 in 64 bits is at most 9 just for a digit.
use Rattle.digits.proofs.Digits.{decimal_hit, decimal_stop, run_end}
use Rattle.digits.proofs.DecimalRuns.{run_grows, run_holds, run_value_more, run_value_stop, run_value_end}
use Rattle.coordinates.proofs.Counted.{digit_in, digit_out}
use Rattle.std.proofs.Common.{sym, refl, ◌∙◌, arith}
use Rattle.coordinates.proofs.runs.short_run.Goals as goal

pub loop-i-init : goal.loop-i-init
loop-i-init c = (refl, refl, c.requires.1)

pub returns-then-d-gt-LAST_DIGIT : goal.returns-then-d-gt-LAST_DIGIT
returns-then-d-gt-LAST_DIGIT c =
    let inv = c.loop-i.invariant in
    let w = digit_out _ _ c.wrapping_sub_u64-d.ensures.value (omega arith) c.if-d-gt-LAST_DIGIT.true in (
      sym (inv.0 ∙ decimal_stop _ _ c.loop-i-test.true w),
      sym (inv.1 ∙ run_value_stop _ _ _ c.loop-i-test.true w),
      inv.2,
    )

pub overflow_mul-v : goal.overflow_mul-v
overflow_mul-v c =
    let l = c.loop-i-test.true in
    let p = c.requires.0 in
    let w = digit_in _ _ c.wrapping_sub_u64-d.ensures.value c.if-d-gt-LAST_DIGIT.false in
    omega (arith, run_holds _ _ _ c.loop-i.invariant.2 w.0 (omega arith))

pub overflow_add-v : goal.overflow_add-v
overflow_add-v c =
    let l = c.loop-i-test.true in
    let p = c.requires.0 in
    let w = digit_in _ _ c.wrapping_sub_u64-d.ensures.value c.if-d-gt-LAST_DIGIT.false in
    omega (arith, run_holds _ _ _ c.loop-i.invariant.2 w.0 (omega arith), w.1)

pub loop-i-preserved : goal.loop-i-preserved
loop-i-preserved c =
    let inv = c.loop-i.invariant in
    let w = digit_in _ _ c.wrapping_sub_u64-d.ensures.value c.if-d-gt-LAST_DIGIT.false in
    rw w.1
    (inv.0 ∙ decimal_hit _ _ c.loop-i-test.true w.0, inv.1 ∙ run_value_more _ _ _ c.loop-i-test.true w.0, run_grows _ _ _ inv.2 w.0)

pub returns : goal.returns
returns c =
    let inv = c.loop-i.invariant in (
      sym (inv.0 ∙ run_end _ _ _ c.loop-i-test.false),
      sym (inv.1 ∙ run_value_end _ _ _ c.loop-i-test.false),
      inv.2,
    )
