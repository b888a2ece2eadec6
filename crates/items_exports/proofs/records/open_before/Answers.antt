use mathlib.Core.Path.{sym, ◌∙◌}
use native.Mathlib.Omega.{arith}
use Rattle.items_exports.proofs.Back.{open_here, open_earlier, open_none}
use Rattle.items_exports.proofs.records.open_before.Goals as goal

pub returns-then-opens_inside : goal.returns-then-opens_inside
returns-then-opens_inside c =
    open_here c.args.records.now c.args.depth c.args.none _ (omega arith) (cc) ∙ c.loop-q.invariant.1

pub loop-q-preserved : goal.loop-q-preserved
loop-q-preserved c = (
  omega (arith, c.loop-q.invariant.0),
  open_earlier c.args.records.now c.args.depth c.args.none c.loop-q.q c.loop-q-test.true
      (sym c.opens_inside.ensures ∙ c.if-opens_inside.false) ∙ c.loop-q.invariant.1,
)

pub returns : goal.returns
returns c =
    open_none c.args.records.now c.args.depth c.args.none c.loop-q.q (omega (arith, c.loop-q-test.false)) ∙ c.loop-q.invariant.1
