use Rattle.digits.specs.Digits.{digits, value}
use Prim.Native.Nat.{◌+◌, ◌-◌, ◌^◌, ◌<◌}
use mathlib.Core.Path.{◌≡◌}
use lib.ListN.{length, drop}
use Rattle.digits.proofs.short_run.Given as goal

abbrev pub invariant-loop-i : goal.invariant-loop-i
invariant-loop-i l =
    (l.from + digits l.radix (drop l.from l.t) ≡ l.i + digits l.radix (drop l.i l.t)) × (value l.radix 0 (drop l.from l.t) ≡ value l.radix l.v (drop l.i l.t)) × (l.v < 16 ^ l.i)

abbrev pub decreases-loop-i : goal.decreases-loop-i
decreases-loop-i l = length l.t - l.i
