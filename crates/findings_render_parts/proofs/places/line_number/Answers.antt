-- One more than the newlines before.
use mathlib.Core.Path.{ap}
use Prim.Native.Nat.{ℕ, ◌+◌}
use Rattle.findings_render_parts.specs.Spots.{line_number}
use Rattle.findings_render_parts.proofs.places.line_number.Goals as goal

pub returns : goal.returns
unfolding line_number
returns c = ap (λ (n : ℕ). 1 + n) c.count.ensures.0
