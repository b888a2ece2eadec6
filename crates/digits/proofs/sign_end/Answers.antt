-- Each return is a case of `sign`: past the end, a sign, and any other byte.
use Rattle.digits.proofs.Digits.{sign_past, sign_is, sign_not}
use mathlib.Core.Path.{sym, ◌∙◌}
use Rattle.digits.proofs.sign_end.Goals as goal

pub returns-then-t-from : goal.returns-then-t-from
returns-then-t-from c = sign_past _ _ c.if-t-from.true

pub returns-then-is_sign : goal.returns-then-is_sign
returns-then-is_sign c = sign_is _ _ c.if-t-from.false (sym c.if-is_sign.true ∙ c.is_sign.ensures)

pub returns : goal.returns
returns c = sign_not _ _ c.if-t-from.false (sym c.if-is_sign.false ∙ c.is_sign.ensures)
