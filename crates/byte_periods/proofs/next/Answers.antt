-- A byte that agrees with the one a period before it goes on; a lesser one makes all of the suffix its period; a greater one starts it later (Greatest).
use native.Mathlib.Omega.{arith}
use lib.ListN.{length}
use Rattle.byte_periods.specs.Periods.{byte}
use Rattle.byte_periods.proofs.Greatest.{as_before, all_one, anew, a_turn_later}
use Rattle.byte_periods.proofs.next.Goals as goal

pub overflow_sub-old : goal.overflow_sub-old
overflow_sub-old c = omega (arith, c.requires.1.room)

pub bounds-w-end : goal.bounds-w-end
bounds-w-end c = let p = c.requires in omega (arith, p.0, p.1.some, p.1.room)

pub returns-then-new-old : goal.returns-then-new-old
returns-then-new-old c =
    let v = c.args.v in
    let p = c.requires in
    (omega (arith, p.0), as_before (byte c.args.w.now) (length c.args.w.now) v.start v.period v.end p.1 c.if-new-old.true, omega arith)

pub overflow_sub-result : goal.overflow_sub-result
overflow_sub-result c = let p = c.requires in omega (arith, p.1.room)

pub returns-then-new-old-2 : goal.returns-then-new-old-2
returns-then-new-old-2 c =
    let v = c.args.v in
    let p = c.requires in (
      omega (arith, p.0),
      all_one (byte c.args.w.now) (length c.args.w.now) v.start v.period v.end p.1 c.if-new-old-2.true,
      omega arith,
    )

pub overflow_add-start : goal.overflow_add-start
overflow_add-start c = let p = c.requires in omega (arith, p.0, p.1.room)

pub overflow_sub-end : goal.overflow_sub-end
overflow_sub-end c = let p = c.requires in omega (arith, p.0, p.1.room)

pub returns-then-end-start : goal.returns-then-end-start
returns-then-end-start c =
    let v = c.args.v in
    let p = c.requires in (
      omega (arith, p.0, p.1.room),
      anew (byte c.args.w.now) (length c.args.w.now) v.start v.period v.end p.1
          (omega (arith, c.if-new-old-2.false, c.if-new-old.false)) p.0,
      omega (arith, c.if-end-start.true, p.1.room),
    )

pub returns : goal.returns
returns c =
    let v = c.args.v in
    let p = c.requires in (
      omega (arith, p.0),
      a_turn_later (byte c.args.w.now) (length c.args.w.now) v.start v.period v.end p.1
          (omega (arith, c.if-new-old-2.false, c.if-new-old.false)) p.0 (omega (arith, c.if-end-start.false, p.1.room)),
      omega (arith, p.1.some),
    )
