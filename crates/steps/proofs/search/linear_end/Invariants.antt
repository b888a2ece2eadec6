use Prim.Native.Nat.{ℕ, ◌+◌, ◌-◌, ◌≤◌, ◌<◌}
use mathlib.Core.Path.{◌≡◌}
use mathlib.Core.Bool.{false}
use lib.ListN.{length, get_or, drop}
use Rattle.laws.specs.Texts.{begins}
use Rattle.byte_periods.specs.Periods.{byte, Stays}
use Rattle.items.specs.Readers.{unreturned}
use Rattle.steps.specs.Sought.{Knows}
use Rattle.steps.proofs.search.linear_end.Given as goal

abbrev pub invariant-loop-at : goal.invariant-loop-at
invariant-loop-at l =
    (l.from ≤ l.at) × (l.at ≤ length l.s) × (l.known.count < length (unreturned l.line)) × Knows l.s l.line l.known × (l.m.kept ≤ l.known.count)
    × ((q : ℕ) → q < l.m.kept → get_or l.s (l.at + q) 0 ≡ get_or (unreturned l.line) q 0) × Stays (byte (unreturned l.line)) l.m.kept l.m.start l.m.period
    × ((k : ℕ) → l.from ≤ k → k < l.at → begins (unreturned l.line) (drop k l.s) ≡ false)

abbrev pub decreases-loop-at : goal.decreases-loop-at
decreases-loop-at l = length l.s - l.at
