use Prim.Native.Nat.{◌-◌, ◌≤◌}
use mathlib.Core.Path.{◌≡◌}
use lib.ListN.{length}
use Rattle.items.specs.Machine.{depth_of}
use Rattle.items_writing.proofs.WordTurns.{onward}
use Rattle.items_writing.proofs.word.stand_on.Given as goal

abbrev pub invariant-loop-at : goal.invariant-loop-at
invariant-loop-at l = (l.at ≤ length l.t) × (depth_of l.phase ≤ l.at) × (onward l.t l.last l.initial.phase l.initial.at ≡ onward l.t l.last l.phase l.at)

abbrev pub decreases-loop-at : goal.decreases-loop-at
decreases-loop-at l = length l.t - l.at
