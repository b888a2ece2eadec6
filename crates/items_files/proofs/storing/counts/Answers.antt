-- The numbers passed take `total` groups (`Counting`).
use native.Mathlib.Omega.{arith}
use Rattle.items_files.proofs.Laid.{counting_start, counting_turn, counting_end}
use Rattle.items_files.proofs.storing.counts.Goals as goal

pub loop-n-init : goal.loop-n-init
loop-n-init c = counting_start c.args.ns

pub overflow_add-total : goal.overflow_add-total
overflow_add-total c =
    let next = counting_turn c.args.ns c.loop-n.invariant (omega arith) c.group_count-total.ensures in
    omega (arith, next.few)

pub loop-n-preserved : goal.loop-n-preserved
loop-n-preserved c = counting_turn c.args.ns c.loop-n.invariant (omega arith) c.group_count-total.ensures

pub returns : goal.returns
returns c = counting_end c.args.ns c.loop-n.invariant (omega arith)
