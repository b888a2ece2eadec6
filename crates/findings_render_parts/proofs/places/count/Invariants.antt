use Prim.Native.Nat.{◌≤◌}
use mathlib.Core.Path.{◌≡◌}
use Rattle.findings_render_parts.specs.Spots.{count_in}
use Rattle.findings_render_parts.proofs.places.count.Given as goal

abbrev pub invariant-loop-i : goal.invariant-loop-i
invariant-loop-i l = (l.found ≡ count_in l.low l.high l.s l.from l.i) × (l.found ≤ l.i)
