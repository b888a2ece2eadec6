-- The digits after the sign are all there is, or what follows them is a fraction, or after some digits a slash and a denominator.
use Rattle.numbers.proofs.PlainPlaces.{plain_digits_holds, plain-fraction, plain-ratio, plain_none}
use mathlib.Core.Path.{sym, ◌∙◌}
use Rattle.numbers.proofs.is_plain.Goals as goal

pub returns-then-end-t : goal.returns-then-end-t
returns-then-end-t c = plain_digits_holds _ 0 _ _ c.sign_end-from.ensures c.decimal_end-end.ensures c.if-end-t.true

pub returns-then-fraction_at : goal.returns-then-fraction_at
returns-then-fraction_at c = plain-fraction _ 0 _ _ c.sign_end-from.ensures
    c.decimal_end-end.ensures c.if-end-t.false (sym c.if-fraction_at.true ∙ c.fraction_at.ensures)

pub returns-then-from-end : goal.returns-then-from-end
returns-then-from-end c =
    plain-ratio _ 0 _ _ c.sign_end-from.ensures c.decimal_end-end.ensures c.if-end-t.false
    (sym c.if-fraction_at.false ∙ c.fraction_at.ensures) _ c.if-from-end.true c.ratio_at.ensures

pub returns : goal.returns
returns c =
    plain_none _ 0 _ _ c.sign_end-from.ensures c.decimal_end-end.ensures
    c.if-end-t.false (sym c.if-fraction_at.false ∙ c.fraction_at.ensures) c.if-from-end.false
