-- Each answer of `next_at` is a case of the definition; only an item moves the reader.
use Rattle.std.proofs.Common.{None, Option, Some, Ok}
use Rattle.std.proofs.lemmas.Result.{err_from_is_err_and}
use mathlib.Core.Path.{sym, ap, ◌∙◌}
use Rattle.lexer.specs.Answers.{reply_of, replied}
use Rattle.lexer.specs.declared.Given.{Given}
use Rattle.reader.proofs.Steps.{next_is, next_fails}
use Rattle.reader.proofs.next.Goals as goal

pub returns : goal.returns
returns c =
    let last = c.next_at.new.text in
    next_is c.args.r.now c.args.text.now last (Ok (Some c.in-Some.given))
    (ap (λ (o : Option Given). replied (reply_of (Ok o)) last) (sym c.in-Some.is) ∙ c.in_ok-given.ensures)

pub returns-in_err-given : goal.returns-in_err-given
returns-in_err-given c =
    let p = err_from_is_err_and c.from_residual.result c.from_residual.ensures.1 in
    rw (p.1, p.2) (next_fails c.args.r.now c.args.text.now c.next_at.new.text c.in_err-given.field-0.0 c.in_err-given.ensures)

pub returns-in_default : goal.returns-in_default
returns-in_default c =
    let last = c.next_at.new.text in
    next_is c.args.r.now c.args.text.now last (Ok None)
    (ap (λ (o : Option Given). replied (reply_of (Ok o)) last) (sym c.in_default.is) ∙ c.in_ok-given.ensures)
