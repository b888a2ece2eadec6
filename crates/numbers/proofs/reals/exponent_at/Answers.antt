-- A sign, then digits to the end of the text, or it is bad.
use Rattle.numbers.proofs.Decimals.{exponent_yes, exponent_no}
use mathlib.Core.Path.{sym, ◌∙◌}
use Rattle.numbers.proofs.reals.exponent_at.Goals as goal

pub returns-then-unsigned : goal.returns-then-unsigned
returns-then-unsigned c =
    exponent_yes _ _ _ _ c.starts_at-negative.ensures c.sign_end-start.ensures
    (sym c.if-unsigned.true ∙ c.unsigned.ensures)

pub returns-else-unsigned : goal.returns-else-unsigned
returns-else-unsigned c =
    exponent_no _ _ _ _ c.starts_at-negative.ensures c.sign_end-start.ensures
    (sym c.if-unsigned.false ∙ c.unsigned.ensures)
