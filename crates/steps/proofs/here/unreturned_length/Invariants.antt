use Prim.Native.Nat.{◌+◌, ◌≤◌}
use mathlib.Core.Path.{◌≡◌}
use lib.ListN.{length, drop}
use Rattle.items.specs.Readers.{unreturned}
use Rattle.steps.proofs.here.unreturned_length.Given as goal

abbrev pub invariant-loop-b : goal.invariant-loop-b
invariant-loop-b l = (length (unreturned l.line) ≡ l.n + length (unreturned (drop l.b-index l.line))) × (l.n ≤ l.b-index)
