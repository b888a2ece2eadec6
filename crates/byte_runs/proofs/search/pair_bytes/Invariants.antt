use Prim.Native.Nat.{◌+◌, ◌≤◌}
use lib.ListN.{length}
use Rattle.byte_runs.specs.Search.{Lone}
use Rattle.byte_runs.proofs.search.pair_bytes.Given as goal

abbrev pub invariant-loop-i : goal.invariant-loop-i
invariant-loop-i l = (l.from ≤ l.i) × (l.i + l.gap ≤ length l.t) × Lone l.t l.gap l.x l.y l.from l.i
