-- What was counted and what is left to count is the count of the line.
use Prim.Native.Nat.{ℕ, ◌+◌}
use mathlib.Core.Path.{sym, ap, ◌∙◌}
use mathlib.Core.List.{List}
use lib.ListN.{length}
use native.Mathlib.Omega.{arith}
use Rattle.steps.proofs.Delimiter.{unreturned_skip, count_on_lem, count_end}
use Rattle.steps.proofs.here.unreturned_length.Goals as goal
use Rattle.steps.proofs.here.unreturned_length.Goals.{then-b-ne13, else-b-ne13}

pub loop-b-preserved : goal.loop-b-preserved
loop-b-preserved c = elim c.if-b-ne13.branch [
  | then-b-ne13 w ↦ (
    rw w.n-is (c.loop-b.invariant.0 ∙ count_on_lem _ _ _ c.loop-b-test.true w.if-b-ne13.true),
    omega (arith, w.n-is, c.loop-b.invariant.1),
  )
  | else-b-ne13 w ↦ (
    rw w.n-is (c.loop-b.invariant.0
        ∙ ap (λ (l : List ℕ). c.loop-b.n + length l) (unreturned_skip _ _ c.loop-b-test.true w.if-b-ne13.false)),
    omega (arith, w.n-is, c.loop-b.invariant.1),
  )
]

pub returns : goal.returns
returns c = sym (c.loop-b.invariant.0 ∙ count_end _ _ _ c.loop-b-test.false)
