-- The loop keeps: the run from place i on ends where the run from the first place on does, and any block before i is plain.
use borrow.Author.Tests.{leb-true}
use native.Mathlib.Omega.{arith}
use Prim.Native.Nat.{◌+◌}
use mathlib.Core.Path.{sym, ◌∙◌}
use lib.ListN.{length}
use Rattle.laws.proofs.Blocks.{block_on}
use Rattle.byte_runs.specs.Runs.{plain, block}
use Rattle.byte_runs.proofs.Blocks.{run_before}
use Rattle.byte_runs.proofs.runs.plain_end.Goals as goal

pub loop-i-preserved : goal.loop-i-preserved
loop-i-preserved c =
    let a = c.args in
    let l = c.loop-i in (
      block_on (plain a.a a.b) a.t.now l.i block c.all_plain.ensures c.if-all_plain.true ∙ l.invariant.0,
      omega arith,
      λ h. omega arith,
    )

pub plain_rest-requires : goal.plain_rest-requires
plain_rest-requires c =
    let a = c.args in
    let l = c.loop-i in
    let far = l.invariant.2 c.if-from-i.true in (
      leb-true (l.i + block) (length a.t.now) (sym c.has_block.ensures ∙ c.loop-i-test.true),
      (omega arith, run_before (plain a.a a.b) a.t.now a.from l.i block far (omega arith)),
    )
