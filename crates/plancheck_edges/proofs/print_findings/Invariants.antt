-- The invariant: the findings before this one are printed.
use Prim.Native.Nat.{◌≤◌}
use Rattle.plancheck_edges.proofs.print_findings.Given as goal

abbrev pub invariant-loop-i : goal.invariant-loop-i
invariant-loop-i g l = l.i ≤ l.told
