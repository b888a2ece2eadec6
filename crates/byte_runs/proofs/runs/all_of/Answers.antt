-- The loop keeps: none of j bytes ended the run just if the run from `at` on has j bytes (laws, Blocks).
use native.Mathlib.Omega.{arith}
use mathlib.Core.Path.{◌∙◌}
use lib.Dec.{eqb}
use lib.ListN.{get_or}
use Prim.Native.Nat.{◌+◌}
use Rattle.laws.proofs.Blocks.{block_next}
use Rattle.byte_runs.proofs.Blocks.{none_more}
use Rattle.byte_runs.proofs.runs.all_of.Goals as goal

pub loop-j-preserved : goal.loop-j-preserved
loop-j-preserved g c =
    let a = c.args in
    let l = c.loop-j in
    let f = g.C.ByteClass.passes a.class in
    none_more l.ended c.ends.result (f (get_or a.t.now (a.at + l.j) 0)) c.ends.ensures
    ∙ block_next f a.t.now a.at l.j (eqb l.ended 0) (omega (arith, c.requires, c.loop-j-test.true)) l.invariant
