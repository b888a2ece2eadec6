-- Each answer of the character reader is a case of the definition; what is wrong has one of 01's numbers, so the kind fits a word.
use Rattle.meaning.proofs.Errors.{wrong_numbered, failing_numbered}
use native.Mathlib.Omega.{arith}
use Rattle.std.proofs.Common.{Err}
use mathlib.Core.Path.{sym, ap, ◌∙◌}
use Rattle.meaning.proofs.character_item.Goals as goal

pub overflow_add-error : goal.overflow_add-error
overflow_add-error c = omega (arith, wrong_numbered _ c.rest.result.now (sym c.character.ensures ∙ c.in-Err-Wrong.is ∙ ap Err c.in-Err-Wrong.field-0-is))

pub overflow_add-error-in-Err-WrongAt : goal.overflow_add-error-in-Err-WrongAt
overflow_add-error-in-Err-WrongAt c = omega (arith, failing_numbered _ c.rest.result.now (sym c.character.ensures ∙ c.in-Err-WrongAt.is ∙ ap Err c.in-Err-WrongAt.field-0-is))
