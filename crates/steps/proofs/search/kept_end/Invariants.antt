use Prim.Native.Nat.{◌≤◌}
use mathlib.Core.Path.{◌≡◌}
use lib.ListN.{length, take}
use Rattle.items.specs.Readers.{unreturned}
use Rattle.steps.proofs.search.kept_end.Given as goal

abbrev pub invariant-loop-i : goal.invariant-loop-i
invariant-loop-i l = (l.i ≤ length l.line) × (unreturned (take l.i l.line) ≡ unreturned l.line)
