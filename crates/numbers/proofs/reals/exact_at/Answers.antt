-- What begins with no digit is none. The first slash cuts a rational in two; without one there is an integer.
use Rattle.numbers.proofs.Grammars.{exact_none, exact_ratio, exact_integer}
use mathlib.Core.Path.{sym, ◌∙◌}
use lib.Seq.{length-take-le}
use native.Mathlib.Omega.{arith}
use Rattle.numbers.proofs.reals.exact_at.Goals as goal

pub returns-then-no_digit_at : goal.returns-then-no_digit_at
returns-then-no_digit_at g c = exact_none g.met.G.NumberGrammar.reals _ _ _ _ (sym c.if-no_digit_at.true ∙ c.no_digit_at.ensures)

pub slice_bounds-whole-end : goal.slice_bounds-whole-end
slice_bounds-whole-end g c = sym (length-take-le _ _ (omega arith))

pub returns-then-k-t : goal.returns-then-k-t
returns-then-k-t g c =
    exact_ratio g.met.G.NumberGrammar.reals _ _ _ _ _ c.find-k.ensures _ _ _ c.if-k-t.true
    c.whole.ensures c.denominator_at.ensures c.rational.ensures

pub returns-else-k-t : goal.returns-else-k-t
returns-else-k-t g c =
    exact_integer g.met.G.NumberGrammar.reals _ _ _ _ _ c.find-k.ensures _ _ c.if-k-t.false c.whole-else-k-t.ensures
    c.integral.ensures
