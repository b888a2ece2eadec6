-- The loop keeps: the starts counted and those left are all. The part that is left is then counted too.
use native.Mathlib.Omega.{arith}
use Prim.Native.Nat.{◌+◌, ◌-◌}
use lib.ListN.{length}
use Rattle.lines_calls.proofs.Left.{counted_all}
use Rattle.lines_calls.proofs.building.count.Goals as goal

pub loop-i-init : goal.loop-i-init
loop-i-init c = (omega arith, omega arith, omega arith)

pub count_part-requires : goal.count_part-requires
count_part-requires c = (omega arith, omega arith)

pub overflow_add-n : goal.overflow_add-n
overflow_add-n c = omega (arith, c.count_part.ensures.0)

pub loop-i-preserved : goal.loop-i-preserved
loop-i-preserved c = let e = c.count_part.ensures in (omega arith, omega (arith, e.0), omega (arith, e.1, c.loop-i.invariant.2))

pub count_part-requires-2 : goal.count_part-requires-2
count_part-requires-2 c = (omega arith, omega arith)

pub overflow_add-result : goal.overflow_add-result
overflow_add-result c = omega (arith, c.count_part-2.ensures.0)

pub returns : goal.returns
returns c =
    let s = c.args.text.now in
    let l = c.loop-i in
    let e = c.count_part-2.ensures in
    counted_all s (l.i + (length s - l.i)) (l.n + c.count_part-2.result) (omega arith) (omega (arith, e.1, l.invariant.2))
