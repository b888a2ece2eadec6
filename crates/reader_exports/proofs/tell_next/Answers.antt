-- An arm for each answer: only an item writes its record and moves the position.
use Rattle.std.proofs.Common.{Option, Ok, Err}
use mathlib.Core.Path.{ap, ◌∙◌}
use Rattle.lexer.specs.declared.Given.{Given}
use Rattle.lexer.specs.declared.NextError.{NextError}
use Rattle.refusal.specs.Refusals as refusal
use Rattle.items.specs.Whole.{limit}
use Rattle.lexer.specs.Answers.{reply_of}
use Rattle.reader_exports.proofs.Left.{item-told, end_told, stop_told}
use Rattle.reader_exports.proofs.tell_next.Goals as goal

pub returns-in-Ok-Some : goal.returns-in-Ok-Some
returns-in-Ok-Some c =
    λ old text. item-told c.args.words.now old c.args.item.now _ text _ _ (ap reply_of c.in-Ok-Some.is ∙ ap (λ (o : Option Given). reply_of (Ok o)) (rw c.in-Ok-Some.is at c.in-Ok-Some.field-0-is))
    c.put_position.ensures c.put.ensures c.put_values.ensures

pub returns-in-Ok-None : goal.returns-in-Ok-None
returns-in-Ok-None c = λ old text. end_told _ old _ _ text (ap reply_of c.in-Ok-None.is ∙ ap (λ (o : Option Given). reply_of (Ok o)) (rw c.in-Ok-None.is at c.in-Ok-None.field-0-is)) c.put_values-in-Ok-None.ensures

pub returns-in-Err-TooLong : goal.returns-in-Err-TooLong
returns-in-Err-TooLong c = λ old text. stop_told _ old _ _ text refusal.over_long limit 0 (ap reply_of c.in-Err-TooLong.is ∙ ap (λ (e : NextError). reply_of (Err e)) (rw c.in-Err-TooLong.is at c.in-Err-TooLong.field-0-is)) c.put_values-in-Err-TooLong.ensures

pub returns-in-Err-NoRoom : goal.returns-in-Err-NoRoom
returns-in-Err-NoRoom c = λ old text. stop_told _ old _ _ text refusal.too_few 1 _ (ap reply_of c.in-Err-NoRoom.is ∙ ap (λ (e : NextError). reply_of (Err e)) (rw c.in-Err-NoRoom.is at c.in-Err-NoRoom.field-0-is)) c.put_values-in-Err-NoRoom.ensures
