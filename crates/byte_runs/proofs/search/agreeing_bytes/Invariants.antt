use Prim.Native.Nat.{◌≤◌}
use Rattle.byte_runs.specs.Search.{Alike}
use Rattle.byte_runs.proofs.search.agreeing_bytes.Given as goal

abbrev pub invariant-loop-j : goal.invariant-loop-j
invariant-loop-j l = (l.j ≤ l.n) × Alike l.t l.a l.b l.j
