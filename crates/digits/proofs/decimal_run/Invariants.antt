use Rattle.digits.specs.Digits.{digits, run_value}
use Prim.Native.Nat.{◌+◌, ◌-◌, ◌^◌, ◌<◌}
use mathlib.Core.Path.{◌≡◌}
use lib.ListN.{length, drop}
use Rattle.digits.proofs.decimal_run.Given as goal

abbrev pub invariant-loop-i : goal.invariant-loop-i
invariant-loop-i l =
    (l.from + digits 10 (drop l.from l.t) ≡ l.i + digits 10 (drop l.i l.t)) × (run_value l.before (drop l.from l.t) ≡ run_value l.v (drop l.i l.t)) × (l.v < 10 ^ l.i)

abbrev pub decreases-loop-i : goal.decreases-loop-i
decreases-loop-i l = length l.t - l.i
