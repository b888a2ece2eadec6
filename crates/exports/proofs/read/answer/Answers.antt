-- Each arm tells the number and the values that `read_number` and `read_values` name for its case.
use Rattle.std.proofs.Common.{Result, Err}
use mathlib.Core.Path.{sym, ap, ◌∙◌}
use Rattle.lexer.specs.declared.Needed.{Needed}
use Rattle.lexer.specs.declared.ReadError.{ReadError}
use Rattle.lexer.specs.Answers.{answer_of}
use Rattle.exports.specs.Read.{read_number, read_values}
use Rattle.exports.proofs.read.answer.Goals as goal

pub returns-in-Ok : goal.returns-in-Ok
unfolding read_number read_values
returns-in-Ok c =
    let e = c.in-Ok.is in
    (c.tell.ensures.0 ∙ ap (λ (a : Result Needed ReadError). read_number (answer_of a)) (sym e), c.tell.ensures.1 ∙ ap (λ (a : Result Needed ReadError). read_values (answer_of a)) (sym e))

pub returns-in-Err-NoMode : goal.returns-in-Err-NoMode
unfolding read_number read_values
returns-in-Err-NoMode c =
    let e = c.in-Err-NoMode.is ∙ ap Err (rw c.in-Err-NoMode.is at c.in-Err-NoMode.field-0-is) in
    (c.tell-in-Err-NoMode.ensures.0 ∙ ap (λ (a : Result Needed ReadError). read_number (answer_of a)) (sym e), c.tell-in-Err-NoMode.ensures.1 ∙ ap (λ (a : Result Needed ReadError). read_values (answer_of a)) (sym e))

pub returns-in-Err-TooLong : goal.returns-in-Err-TooLong
unfolding read_number read_values
returns-in-Err-TooLong c =
    let e = c.in-Err-TooLong.is ∙ ap Err (rw c.in-Err-TooLong.is at c.in-Err-TooLong.field-0-is) in
    (c.tell-in-Err-TooLong.ensures.0 ∙ ap (λ (a : Result Needed ReadError). read_number (answer_of a)) (sym e), c.tell-in-Err-TooLong.ensures.1 ∙ ap (λ (a : Result Needed ReadError). read_values (answer_of a)) (sym e))

pub returns-in-Err-NotUtf8 : goal.returns-in-Err-NotUtf8
unfolding read_number read_values
returns-in-Err-NotUtf8 c =
    let e = c.in-Err-NotUtf8.is ∙ ap Err (rw c.in-Err-NotUtf8.is at c.in-Err-NotUtf8.field-0-is) in
    (c.tell-in-Err-NotUtf8.ensures.0 ∙ ap (λ (a : Result Needed ReadError). read_number (answer_of a)) (sym e), c.tell-in-Err-NotUtf8.ensures.1 ∙ ap (λ (a : Result Needed ReadError). read_values (answer_of a)) (sym e))

pub returns-in-Err-NoRoom : goal.returns-in-Err-NoRoom
unfolding read_number read_values
returns-in-Err-NoRoom c =
    let e = c.in-Err-NoRoom.is ∙ ap Err (rw c.in-Err-NoRoom.is at c.in-Err-NoRoom.field-0-is) in
    (c.tell-in-Err-NoRoom.ensures.0 ∙ ap (λ (a : Result Needed ReadError). read_number (answer_of a)) (sym e), c.tell-in-Err-NoRoom.ensures.1 ∙ ap (λ (a : Result Needed ReadError). read_values (answer_of a)) (sym e))
