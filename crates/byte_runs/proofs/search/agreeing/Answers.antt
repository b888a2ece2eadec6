-- The loop keeps: j bytes agree; the block that does not is compared byte by byte.
use native.Mathlib.Omega.{arith}
use Rattle.byte_runs.specs.Runs.{block}
use Rattle.byte_runs.proofs.Searched.{alike_on}
use Rattle.byte_runs.proofs.search.agreeing.Goals as goal

pub loop-j-preserved : goal.loop-j-preserved
loop-j-preserved c =
    let l = c.loop-j in
    let f = c.args in
    (omega arith, alike_on f.t.now f.a f.b l.j block l.invariant.1 (c.same_block.ensures c.if-same_block.true))
