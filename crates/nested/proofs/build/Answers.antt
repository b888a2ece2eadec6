-- The first pass tells the answer and writes nothing; the second, in ample room, writes the nodes that the first counted.
use Rattle.std.proofs.lemmas.Result.{err_from_is_err_and}
use native.Mathlib.Omega.{arith}
use lib.ListN.{replicate}
use Rattle.nested.proofs.Loops.{plan_no, plan_few, plan_far, plan_twice, plan_yes}
use Rattle.nested.proofs.build.Goals as goal

pub returns-in_err-counted : goal.returns-in_err-counted
returns-in_err-counted c =
    let p = err_from_is_err_and c.from_residual.result c.from_residual.ensures.1 in
    rw (p.1, p.2) (plan_no c.args.records.now (replicate 1 0) c.plan.new.nodes c.args.nodes.now _ c.in_err-counted.ensures)

pub returns-then-nodes-counted : goal.returns-then-nodes-counted
returns-then-nodes-counted c =
    plan_few c.args.records.now (replicate 1 0) c.plan.new.nodes c.args.nodes.now c.in_ok-counted.counted
    c.in_ok-counted.ensures (omega (arith, c.if-nodes-counted.true))

pub returns-then-records-gt-WORD : goal.returns-then-records-gt-WORD
returns-then-records-gt-WORD c =
    plan_far c.args.records.now (replicate 1 0) c.plan.new.nodes c.args.nodes.now c.in_ok-counted.counted
    c.in_ok-counted.ensures (omega (arith, c.if-nodes-counted.false)) c.if-records-gt-WORD.true

pub returns-in_err-plan : goal.returns-in_err-plan
returns-in_err-plan c =
    absurd (plan_twice c.args.records.now (replicate 1 0) c.plan.new.nodes c.args.nodes.now c.plan-2.new.nodes c.in_ok-counted.counted _
    c.in_ok-counted.ensures c.in_err-plan.ensures)

pub returns : goal.returns
returns c =
    plan_yes c.args.records.now (replicate 1 0) c.plan.new.nodes c.args.nodes.now c.plan-2.new.nodes c.in_ok-counted.counted
    c.in_ok-counted.ensures (omega (arith, c.if-nodes-counted.false)) c.if-records-gt-WORD.false c.in_ok-plan.field-0 c.in_ok-plan.ensures
