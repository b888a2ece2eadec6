-- The first part that has a zero denominator decides.
use Rattle.numbers.proofs.Judged.{zero_just, zero_first, zero_second}
use mathlib.Core.Path.{sym, ◌∙◌}
use Rattle.numbers.proofs.zero_parts.Goals as goal

pub returns-in-Just : goal.returns-in-Just
returns-in-Just c = zero_just _ _ _ c.in-Just.is c.zero_real.ensures

pub returns-then-zero_real : goal.returns-then-zero_real
returns-then-zero_real c = c.if-zero_real.true ∙ zero_first _ _ _ c.in-Complex.is (sym c.if-zero_real.true ∙ c.zero_real-in-Complex.ensures)

pub returns-else-zero_real : goal.returns-else-zero_real
returns-else-zero_real c =
    zero_second _ _ _ c.in-Complex.is _ (sym c.if-zero_real.false ∙ c.zero_real-in-Complex.ensures)
    c.zero_real-else-zero_real.ensures
