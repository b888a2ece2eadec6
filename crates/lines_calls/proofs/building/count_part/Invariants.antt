use Prim.Native.Nat.{◌+◌, ◌≤◌}
use mathlib.Core.Path.{◌≡◌}
use lib.ListN.{length}
use Rattle.lines_calls.specs.Left.{left}
use Rattle.lines_calls.proofs.building.count_part.Given as goal

abbrev pub invariant-loop-j : goal.invariant-loop-j
invariant-loop-j l = (l.n ≤ l.j) × (length (left l.text l.at) ≡ l.n + length (left l.text (l.at + l.j)))
