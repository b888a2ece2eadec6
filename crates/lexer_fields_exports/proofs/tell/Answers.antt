-- Each arm tells the number and the values that `number_in` and `values_in` name for its case.
use Rattle.std.proofs.Common.{Err}
use mathlib.Core.Path.{ap, ◌∙◌}
use Rattle.lexer_fields_exports.proofs.Told.{answer_told}
use Rattle.lexer_fields_exports.proofs.tell.Goals as goal

pub returns-in-Ok : goal.returns-in-Ok
returns-in-Ok c = answer_told _ _ _ c.in-Ok.is c.put_values.ensures

pub returns-in-Err-NoMode : goal.returns-in-Err-NoMode
returns-in-Err-NoMode c = answer_told _ _ _ (c.in-Err-NoMode.is ∙ ap Err (rw c.in-Err-NoMode.is at c.in-Err-NoMode.field-0-is)) c.put_values-in-Err-NoMode.ensures

pub returns-in-Err-BadEnds : goal.returns-in-Err-BadEnds
returns-in-Err-BadEnds c = answer_told _ _ _ (c.in-Err-BadEnds.is ∙ ap Err (rw c.in-Err-BadEnds.is at c.in-Err-BadEnds.field-0-is)) c.put_values-in-Err-BadEnds.ensures

pub returns-in-Err-TooLong : goal.returns-in-Err-TooLong
returns-in-Err-TooLong c = answer_told _ _ _ (c.in-Err-TooLong.is ∙ ap Err (rw c.in-Err-TooLong.is at c.in-Err-TooLong.field-0-is)) c.put_values-in-Err-TooLong.ensures

pub returns-in-Err-NoRoom : goal.returns-in-Err-NoRoom
returns-in-Err-NoRoom c = answer_told _ _ _ (c.in-Err-NoRoom.is ∙ ap Err (rw c.in-Err-NoRoom.is at c.in-Err-NoRoom.field-0-is)) c.put_values-in-Err-NoRoom.ensures
