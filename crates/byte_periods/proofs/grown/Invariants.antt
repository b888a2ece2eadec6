use Prim.Native.Nat.{◌+◌, ◌-◌, ◌≤◌}
use lib.ListN.{length}
use Rattle.byte_periods.specs.Periods.{byte, Suffixed}
use Rattle.byte_periods.proofs.grown.Given as goal

abbrev pub invariant-loop-v : goal.invariant-loop-v
invariant-loop-v l = (l.v.end ≤ length l.w) × Suffixed (byte l.w) (length l.w) l.v.start l.v.period l.v.end

abbrev pub decreases-loop-v : goal.decreases-loop-v
decreases-loop-v l = length l.w + length l.w - (l.v.start + l.v.end)
