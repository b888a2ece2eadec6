use Prim.Native.Nat.{◌-◌, ◌≤◌}
use mathlib.Core.Path.{◌≡◌}
use lib.ListN.{length, drop}
use Rattle.findings_render_parts.specs.Shown.{is_nil, under}
use Rattle.findings_render_parts.proofs.characters.is_flat.Given as goal

abbrev pub invariant-loop-i : goal.invariant-loop-i
invariant-loop-i l = (l.i ≤ length l.t) × (is_nil (under 94 (drop l.i l.t)) ≡ is_nil (under 94 l.t))

abbrev pub decreases-loop-i : goal.decreases-loop-i
decreases-loop-i l = length l.t - l.i
