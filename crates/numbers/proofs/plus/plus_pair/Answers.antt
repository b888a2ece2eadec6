-- Both parts must be there; whether the second is a real does not rest on its place (law `imaginary_moved`).
use native.Mathlib.Omega.{arith}
use lib.Seq.{length-take-le}
use mathlib.Core.Path.{sym, ◌∙◌}
use Rattle.numbers.proofs.AfterPlus.{pair_none, pair_first, pair_second}
use Rattle.numbers.proofs.plus.plus_pair.Goals as goal

pub slice_bounds-plus_real-end : goal.slice_bounds-plus_real-end
slice_bounds-plus_real-end c = sym (length-take-le _ _ (omega arith))

pub slice_bounds-imaginary_at-end : goal.slice_bounds-imaginary_at-end
slice_bounds-imaginary_at-end c = sym (length-take-le _ _ (omega arith))

pub returns-then-plus_real : goal.returns-then-plus_real
returns-then-plus_real c =
    pair_second _ _ (sym c.if-ends_i.true ∙
    c.ends_i.ensures) c.plus_real.ensures
    c.if-plus_real.true c.requires c.imaginary_at.ensures
    c.is_some.ensures

pub returns-then-ends_i : goal.returns-then-ends_i
returns-then-ends_i c =
    pair_first _ _ (sym c.if-ends_i.true ∙ c.ends_i.ensures) c.plus_real.ensures c.if-plus_real.false

pub returns : goal.returns
returns c = pair_none _ _ (sym c.if-ends_i.false ∙ c.ends_i.ensures)
