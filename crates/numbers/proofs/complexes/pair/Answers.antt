-- The second part needs a last `i`; the first is a real.
use Rattle.numbers.proofs.Grammars.{ends_in, pair_no, pair_is}
use mathlib.Core.Path.{sym, ◌∙◌}
use lib.Seq.{length-take-le}
use native.Mathlib.Omega.{arith}
use Rattle.numbers.proofs.complexes.pair.Goals as goal

pub overflow_sub-last : goal.overflow_sub-last
overflow_sub-last g c =
    let h = ends_in g.met.G.NumberGrammar.parts c.args.t.now c.args.k (sym c.if-ends_i.true ∙ c.ends_i.ensures)
    in
    omega arith

pub slice_bounds-real_at-end : goal.slice_bounds-real_at-end
slice_bounds-real_at-end g c = sym (length-take-le _ _ (omega arith))

pub slice_bounds-imaginary_at-end : goal.slice_bounds-imaginary_at-end
slice_bounds-imaginary_at-end g c = sym (length-take-le _ _ (omega arith))

pub returns-then-ends_i : goal.returns-then-ends_i
returns-then-ends_i g c =
    pair_is g.met.G.NumberGrammar.parts _ _ _ _ c.requires.2 _ _ _
    (sym c.if-ends_i.true ∙ c.ends_i.ensures)
    c.real_at.ensures c.imaginary_at.ensures c.complex.ensures

pub returns-else-ends_i : goal.returns-else-ends_i
returns-else-ends_i g c = pair_no g.met.G.NumberGrammar.parts _ _ _ _ c.requires.2 (sym c.if-ends_i.false ∙ c.ends_i.ensures)
