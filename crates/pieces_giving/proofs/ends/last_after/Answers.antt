-- The range that the extent sets, or the one before.
use mathlib.Core.Path.{ap}
use native.Mathlib.Omega.{arith}
use Rattle.meaning.specs.declared.Range.{Range}
use Rattle.pieces_giving.proofs.ends.last_after.Goals as goal

pub range_after-requires : goal.range_after-requires
range_after-requires c = (omega arith, omega arith, omega (arith, ap (λ (r : Range). r.from) c.extent-2.ensures))

pub returns : goal.returns
returns c = simp (c.range_after.ensures, c.extent.ensures, c.extent-2.ensures)
