-- With a last `i` there is an imaginary part, which needs a sign; else a real.
use Rattle.numbers.proofs.Grammars.{ends_in, alone_real, alone_none, alone_imaginary}
use mathlib.Core.Path.{sym, ◌∙◌}
use lib.Seq.{length-take-le}
use native.Mathlib.Omega.{arith}
use Rattle.numbers.proofs.complexes.alone.Goals as goal

pub overflow_sub-last : goal.overflow_sub-last
overflow_sub-last g c =
    let h = ends_in g.met.G.NumberGrammar.parts c.args.t.now c.args.from
    (sym c.if-ends_i.true ∙ c.ends_i.ensures) in
    omega arith

pub slice_bounds-imaginary_at-end : goal.slice_bounds-imaginary_at-end
slice_bounds-imaginary_at-end g c = sym (length-take-le _ _ (omega arith))

pub returns-then-sign_end-from : goal.returns-then-sign_end-from
returns-then-sign_end-from g c =
    alone_none g.met.G.NumberGrammar.parts _ _ _ (sym c.if-ends_i.true ∙ c.ends_i.ensures) _ c.sign_end.ensures
    c.if-sign_end-from.true

pub returns-else-sign_end-from : goal.returns-else-sign_end-from
returns-else-sign_end-from g c =
    alone_imaginary g.met.G.NumberGrammar.parts _ _ _
    (sym c.if-ends_i.true ∙ c.ends_i.ensures) _
    c.sign_end.ensures _ _ c.if-sign_end-from.false c.imaginary_at.ensures
    c.complex.ensures

pub returns-else-ends_i : goal.returns-else-ends_i
returns-else-ends_i g c =
    alone_real g.met.G.NumberGrammar.parts _ _ _ _ _ (sym c.if-ends_i.false ∙ c.ends_i.ensures) c.real_at.ensures
    c.just.ensures
