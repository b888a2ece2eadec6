-- As `last_after`, by the mode.
use mathlib.Core.Path.{ap}
use native.Mathlib.Omega.{arith}
use Rattle.meaning.specs.declared.Range.{Range}
use Rattle.pieces_giving.proofs.ends.shown_after.Goals as goal

pub range_shown-requires : goal.range_shown-requires
range_shown-requires c = (omega arith, omega arith, omega (arith, ap (λ (r : Range). r.from) c.extent-2.ensures))

pub returns : goal.returns
returns c = simp (c.range_shown.ensures, c.extent.ensures, c.extent-2.ensures)
