-- With an `i` at the end, what stands before it is the imaginary part, and nothing is one (`+i`); without one, the real.
use native.Mathlib.Omega.{arith}
use lib.Seq.{length-take-le}
use mathlib.Core.Path.{refl, sym, ◌∙◌}
use Rattle.numbers.proofs.Grammars.{ends_in}
use Rattle.numbers.specs.Grammars.{bought_parts}
use Rattle.numbers.proofs.AfterPlus.{alone_one, alone_more, alone_plain}
use Rattle.numbers.proofs.plus.plus_alone.Goals as goal

pub overflow_sub-last : goal.overflow_sub-last
overflow_sub-last c = let h = ends_in bought_parts c.args.t.now 0 (sym c.if-ends_i.true ∙ c.ends_i.ensures) in omega arith

pub returns-then-last-eq0 : goal.returns-then-last-eq0
returns-then-last-eq0 c = alone_one _ (sym c.if-ends_i.true ∙ c.ends_i.ensures) c.if-last-eq0.true

pub slice_bounds-plus_real-end : goal.slice_bounds-plus_real-end
slice_bounds-plus_real-end c = sym (length-take-le _ _ (omega arith))

pub returns-then-ends_i : goal.returns-then-ends_i
returns-then-ends_i c =
    alone_more _ (sym c.if-ends_i.true ∙ c.ends_i.ensures) refl c.if-last-eq0.false
    c.plus_real.ensures

pub returns : goal.returns
returns c = alone_plain _ (sym c.if-ends_i.false ∙ c.ends_i.ensures) c.plus_real-2.ensures
