use Rattle.digits.specs.Digits.{value}
use Prim.Native.Nat.{◌^◌, ◌≤◌}
use mathlib.Core.Path.{◌≡◌}
use lib.ListN.{drop}
use Rattle.digits.proofs.magnitude_at.Given as goal

abbrev pub invariant-loop-i : goal.invariant-loop-i
invariant-loop-i l = (value l.radix 0 (drop l.from l.t) ≡ value l.radix l.v (drop l.i l.t)) × (l.v ≤ 2 ^ 63)
