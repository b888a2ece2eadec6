-- The invariant: the status is one of the three.
use Prim.Native.Nat.{◌<◌}
use Rattle.plancheck_edges.proofs.main.Given as goal

abbrev pub invariant-loop-i : goal.invariant-loop-i
invariant-loop-i l = l.status < 3
