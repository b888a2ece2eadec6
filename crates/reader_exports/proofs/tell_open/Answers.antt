-- An arm for each answer: only the position of a source that is open is written.
use Rattle.std.proofs.Common.{Err}
use mathlib.Core.Path.{ap, ◌∙◌}
use Rattle.lexer.specs.declared.OpenError.{OpenError}
use Rattle.refusal.specs.Refusals as refusal
use Rattle.lexer.specs.Opening.{opening_of}
use Rattle.items.specs.Whole.{limit}
use Rattle.reader_exports.proofs.Left.{open_told, refused-told}
use Rattle.reader_exports.proofs.tell_open.Goals as goal

pub returns-in-Ok : goal.returns-in-Ok
returns-in-Ok c = open_told _ _ _ (ap opening_of c.in-Ok.is)
    c.put_position.ensures c.put_values.ensures

pub returns-in-Err-NoMode : goal.returns-in-Err-NoMode
returns-in-Err-NoMode c = refused-told _ _ refusal.no_such_mode _ (ap opening_of c.in-Err-NoMode.is ∙ ap (λ (e : OpenError). opening_of (Err e)) (rw c.in-Err-NoMode.is at c.in-Err-NoMode.field-0-is)) c.put_values-in-Err-NoMode.ensures

pub returns-in-Err-TooLong : goal.returns-in-Err-TooLong
returns-in-Err-TooLong c = refused-told _ _ refusal.over_long limit (ap opening_of c.in-Err-TooLong.is ∙ ap (λ (e : OpenError). opening_of (Err e)) (rw c.in-Err-TooLong.is at c.in-Err-TooLong.field-0-is)) c.put_values-in-Err-TooLong.ensures

pub returns-in-Err-NotUtf8 : goal.returns-in-Err-NotUtf8
returns-in-Err-NotUtf8 c = refused-told _ _ refusal.not_utf8 _ (ap opening_of c.in-Err-NotUtf8.is ∙ ap (λ (e : OpenError). opening_of (Err e)) (rw c.in-Err-NotUtf8.is at c.in-Err-NotUtf8.field-0-is)) c.put_values-in-Err-NotUtf8.ensures
