-- The loop ends, since each turn leaves less to fill, and the memory keeps its length.
use Rattle.std.proofs.Common.{◌≡◌, ◌-◌, ◌≤◌, length}
use Rattle.inputs.proofs.read_full.Given as goal

abbrev pub invariant-loop-done : goal.invariant-loop-done
invariant-loop-done g l = (length l.memory ≡ length l.initial.memory) × (l.done ≤ length l.memory)

abbrev pub decreases-loop-done : goal.decreases-loop-done
decreases-loop-done g l = length l.memory - l.done
