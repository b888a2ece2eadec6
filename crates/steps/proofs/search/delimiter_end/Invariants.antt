use Prim.Native.Nat.{ℕ, ◌-◌, ◌≤◌, ◌<◌}
use mathlib.Core.Path.{◌≡◌}
use mathlib.Core.Bool.{false}
use lib.ListN.{length, drop}
use Rattle.laws.specs.Texts.{begins}
use Rattle.items.specs.Readers.{unreturned}
use Rattle.steps.specs.Sought.{Knows}
use Rattle.steps.proofs.search.delimiter_end.Given as goal

abbrev pub invariant-loop-i : goal.invariant-loop-i
invariant-loop-i l =
    (l.from ≤ l.i) × (l.i ≤ length l.s) × (l.known.count < length (unreturned l.line)) × Knows l.s l.line l.known
    × ((k : ℕ) → l.from ≤ k → k < l.i → begins (unreturned l.line) (drop k l.s) ≡ false)

abbrev pub decreases-loop-i : goal.decreases-loop-i
decreases-loop-i l = length l.s - l.i
