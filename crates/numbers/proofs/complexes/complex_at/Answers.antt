-- The first @ cuts the part in two; without one it is rectangular.
use Rattle.numbers.proofs.Grammars.{complex_polar, complex-rectangular}
use mathlib.Core.Path.{sym}
use lib.Seq.{length-take-le}
use native.Mathlib.Omega.{arith}
use Rattle.numbers.proofs.complexes.complex_at.Goals as goal

pub slice_bounds-real_at-end : goal.slice_bounds-real_at-end
slice_bounds-real_at-end g c = sym (length-take-le _ _ (omega arith))

pub returns-then-k-t : goal.returns-then-k-t
returns-then-k-t g c =
    complex_polar g.met.G.NumberGrammar.parts _ _ _ _ c.find-k.ensures _ _ _ c.if-k-t.true
    c.real_at.ensures c.real_at-then-k-t.ensures c.polar.ensures

pub returns-else-k-t : goal.returns-else-k-t
returns-else-k-t g c = complex-rectangular g.met.G.NumberGrammar.parts _ _ _ _ c.find-k.ensures _ c.if-k-t.false c.rectangular_at.ensures
