-- The two words after a sign, or a real without one (law `ureal_moved`: whether there is one does not rest on its place).
use mathlib.Core.Path.{sym, ◌∙◌}
use Rattle.numbers.proofs.AfterPlus.{real_infinite, real_nan, real_unsigned}
use Rattle.numbers.proofs.plus.plus_real.Goals as goal

pub returns-then-equal_from : goal.returns-then-equal_from
returns-then-equal_from c = real_infinite _ (sym c.if-equal_from.true ∙ c.equal_from.ensures)

pub returns-then-equal_from-2 : goal.returns-then-equal_from-2
returns-then-equal_from-2 c =
    real_nan _ (sym c.if-equal_from.false ∙ c.equal_from.ensures)
    (sym c.if-equal_from-2.true ∙ c.equal_from-2.ensures)

pub returns : goal.returns
returns c =
    real_unsigned _ (sym c.if-equal_from.false ∙ c.equal_from.ensures)
    (sym c.if-equal_from-2.false ∙ c.equal_from-2.ensures) c.ureal_at.ensures c.is_some.ensures
