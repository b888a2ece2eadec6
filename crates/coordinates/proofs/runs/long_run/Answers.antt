-- The bytes passed are digits, so from each place on the run ends where it ends from the start on, and its value counts alike. A value
-- that is capped has room for one digit more.
use Rattle.digits.proofs.Digits.{decimal_hit, decimal_stop, run_end}
use Rattle.digits.proofs.DecimalRuns.{run_value_stop, run_value_end}
use Rattle.laws.proofs.Choice.{within_is}
use Rattle.coordinates.specs.Inner.{capped}
use Rattle.coordinates.proofs.Counted.{more_fits, more_held, run_capped}
use Rattle.std.proofs.Common.{sym, refl, ap, ◌∙◌, arith, rules}
use Rattle.coordinates.proofs.runs.long_run.Goals as goal

pub loop-i-init : goal.loop-i-init
loop-i-init c = (refl, refl, c.requires)

pub overflow_mul-v : goal.overflow_mul-v
overflow_mul-v c =
    let w = sym c.if-between.true ∙ c.between.ensures in
    omega (arith, more_fits _ _ _ c.loop-i.invariant.2 w)

pub overflow_sub-c : goal.overflow_sub-c
overflow_sub-c c = (within_is _ _ _ (sym c.between.ensures ∙ c.if-between.true)).0

pub overflow_cast-c : goal.overflow_cast-c
overflow_cast-c c = let r = within_is _ _ _ (sym c.between.ensures ∙ c.if-between.true) in search rules

pub overflow_add-v : goal.overflow_add-v
overflow_add-v c =
    let w = sym c.if-between.true ∙ c.between.ensures in
    omega (arith, more_fits _ _ _ c.loop-i.invariant.2 w)

pub loop-i-preserved : goal.loop-i-preserved
loop-i-preserved c =
    let inv = c.loop-i.invariant in
    let w = sym c.if-between.true ∙ c.between.ensures in
    rw c.capped-v.ensures (
      inv.0 ∙ decimal_hit _ _ c.loop-i-test.true w,
      inv.1
          ∙ run_capped _ _ _ c.loop-i-test.true w,
      more_held _ _ _ inv.2 w,
    )

pub returns-else-between : goal.returns-else-between
returns-else-between c =
    let inv = c.loop-i.invariant in
    let w = sym c.if-between.false ∙ c.between.ensures in (
      sym (inv.0 ∙ decimal_stop _ _ c.loop-i-test.true w),
      sym (inv.1 ∙ ap capped (run_value_stop _ _ _ c.loop-i-test.true w)),
      inv.2,
    )

pub returns : goal.returns
returns c =
    let inv = c.loop-i.invariant in (
      sym (inv.0 ∙ run_end _ _ _ c.loop-i-test.false),
      sym (inv.1 ∙ ap capped (run_value_end _ _ _ c.loop-i-test.false)),
      inv.2,
    )
