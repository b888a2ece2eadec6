-- Each arm tells the number and the value that `nest_number` and `nest_value` name for its case.
use mathlib.Core.Path.{sym, ap, ◌∙◌}
use Rattle.nested.specs.Lent.{told_of, nest_number, nest_value}
use Rattle.nested.specs.Errors.{Answer}
use Prim.Native.Nat.{ℕ}
use Rattle.nested_exports.proofs.answer.Goals as goal

pub returns-in-Ok : goal.returns-in-Ok
returns-in-Ok c = let e = c.in-Ok.is in (c.tell.ensures.0 ∙ ap (λ (a : Answer ℕ). nest_number (told_of a)) (sym e), c.tell.ensures.1 ∙ ap (λ (a : Answer ℕ). nest_value (told_of a)) (sym e))

pub returns-in-Err : goal.returns-in-Err
returns-in-Err c = let e = c.in-Err.is in (c.tell-in-Err.ensures.0 ∙ c.number.ensures ∙ ap (λ (a : Answer ℕ). nest_number (told_of a)) (sym e), c.tell-in-Err.ensures.1 ∙ ap (λ (a : Answer ℕ). nest_value (told_of a)) (sym e))
