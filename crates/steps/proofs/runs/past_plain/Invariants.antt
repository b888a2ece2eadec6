use Prim.Native.Nat.{◌-◌, ◌≤◌}
use lib.ListN.{length}
use Rattle.items.specs.declared.Phase.{Phase}
use Rattle.steps.specs.Scan.{Passes}
use Rattle.steps.specs.Held.{Holds}
use Rattle.steps.proofs.runs.past_plain.Given as goal

abbrev pub invariant-loop-from : goal.invariant-loop-from
invariant-loop-from l = (l.i ≤ length l.s) × ((p : Phase) → Holds p l.a l.b → Passes l.s p l.from l.i)

abbrev pub decreases-loop-from : goal.decreases-loop-from
decreases-loop-from l = length l.s - l.i
