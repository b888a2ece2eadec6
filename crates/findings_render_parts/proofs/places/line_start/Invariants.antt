use Prim.Native.Nat.{◌≤◌}
use mathlib.Core.Path.{◌≡◌}
use Rattle.findings_render_parts.specs.Spots.{start_of}
use Rattle.findings_render_parts.proofs.places.line_start.Given as goal

abbrev pub invariant-loop-i : goal.invariant-loop-i
invariant-loop-i l = (l.i ≤ l.at) × (start_of l.s l.at ≡ start_of l.s l.i)
