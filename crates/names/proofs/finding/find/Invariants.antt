use Rattle.std.proofs.Common.{None}
use Prim.Native.Nat.{ℕ, ◌+◌, ◌-◌}
use mathlib.Core.Path.{◌≡◌}
use mathlib.Core.Logic.{◌⊎◌}
use Rattle.names.specs.Call.{probe_of, free_of, lookup_of}
use Rattle.names.proofs.finding.find.Given as goal

abbrev pub invariant-loop-half : goal.invariant-loop-half
invariant-loop-half l =
    (l.half ≡ l.party) ⊎ ((l.half ≡ 1 - l.party) × (lookup_of l.words l.bytes l.party l.name ≡ None) × (l.free ≡ free_of (probe_of l.words l.bytes l.party l.name)))

-- 1 in the own half, 0 in the other
abbrev pub left : ℕ → ℕ → ℕ
left party half = 1 - ((half - party) + (party - half))

abbrev pub decreases-loop-half : goal.decreases-loop-half
decreases-loop-half l = left l.party l.half
