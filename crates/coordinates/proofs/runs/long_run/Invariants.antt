use Rattle.digits.specs.Digits.{digits, run_value}
use Rattle.coordinates.specs.Inner.{capped, Held}
use Rattle.std.proofs.Common.{◌≡◌, ◌+◌, ◌-◌, length, drop}
use Rattle.coordinates.proofs.runs.long_run.Given as goal

abbrev pub invariant-loop-i : goal.invariant-loop-i
invariant-loop-i l =
    (l.from + digits 10 (drop l.from l.t) ≡ l.i + digits 10 (drop l.i l.t))
    × (capped (run_value l.before (drop l.from l.t)) ≡ capped (run_value l.v (drop l.i l.t))) × Held l.v l.i

abbrev pub decreases-loop-i : goal.decreases-loop-i
decreases-loop-i l = length l.t - l.i
