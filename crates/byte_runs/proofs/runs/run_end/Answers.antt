-- The loop keeps: the run from place i on ends where the run from the first place on does.
use native.Mathlib.Omega.{arith}
use mathlib.Core.Path.{◌∙◌}
use Rattle.laws.proofs.Blocks.{block_room, block_on}
use Rattle.byte_runs.specs.Runs.{block}
use Rattle.byte_runs.proofs.runs.run_end.Goals as goal

pub overflow_add-i : goal.overflow_add-i
overflow_add-i g c =
    omega (arith, block_room (g.C.ByteClass.passes c.args.class) c.args.t.now c.loop-i.i block c.starts_run.ensures c.loop-i-test.true (omega arith))

pub loop-i-smaller : goal.loop-i-smaller
loop-i-smaller g c =
    omega (arith, block_room (g.C.ByteClass.passes c.args.class) c.args.t.now c.loop-i.i block c.starts_run.ensures c.loop-i-test.true (omega arith))

pub loop-i-preserved : goal.loop-i-preserved
loop-i-preserved g c =
    block_on (g.C.ByteClass.passes c.args.class) c.args.t.now c.loop-i.i block c.starts_run.ensures c.loop-i-test.true
    ∙ c.loop-i.invariant
