-- The invariant: what lies behind is a run of simple data whose nodes are written. As many nodes as records were passed, so there is room for the
-- next node wherever the next record is below the limit.
use native.Mathlib.Omega.{arith}
use mathlib.Core.Path.{refl, ◌∙◌}
use Rattle.nested.proofs.Runs.{run_none, run_more}
use Rattle.nested.proofs.put_simples.Goals as goal

pub loop-at-init : goal.loop-at-init
loop-at-init c = (
  refl,
  omega arith,
  run_none c.args.records.now c.args.from c.args.w c.args.nodes.now (omega (arith, c.requires.0, c.requires.1)),
)

pub simple_at-requires : goal.simple_at-requires
simple_at-requires c = omega (arith, c.min-limit.ensures, c.requires.0)

pub shape_of-nodes-in_default : goal.shape_of-nodes-in_default
shape_of-nodes-in_default c = c.loop-at.invariant.0

pub returns-in_default : goal.returns-in_default
returns-in_default c = c.loop-at.invariant.2

pub lay-requires : goal.lay-requires
lay-requires c =
    omega (arith, c.min-limit.ensures, c.loop-at.invariant.0, c.loop-at.invariant.1, c.requires.2)

pub overflow_add-v : goal.overflow_add-v
overflow_add-v c =
    omega (arith, c.loop-at.invariant.1, c.requires.2, c.min-limit.ensures)

pub loop-at-preserved : goal.loop-at-preserved
loop-at-preserved c = (
  c.lay.auto.nodes ∙ c.loop-at.invariant.0,
  omega (arith, c.loop-at.invariant.1),
  run_more c.args.records.now c.args.from c.loop-at.at c.in-Some.kind
      (omega (arith, c.loop-at-test.true, c.min-limit.ensures, c.requires.0)) (c.simple_at.ensures
      c.in-Some.kind c.in-Some.is) c.args.w c.loop-at.v c.args.nodes.now c.loop-at.nodes c.lay.new.nodes
      c.loop-at.invariant.0 c.loop-at.invariant.2 (omega (arith, c.loop-at.invariant.1, c.loop-at.invariant.2.simples.count)) c.lay.ensures,
)

pub shape_of-nodes : goal.shape_of-nodes
shape_of-nodes c = c.loop-at.invariant.0

pub returns : goal.returns
returns c = c.loop-at.invariant.2
