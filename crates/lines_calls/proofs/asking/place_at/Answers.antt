-- The line is the one that the search finds, and from its start on the rest of the text has the characters that the text has (`since_line`).
use Rattle.std.proofs.Common.{None, Some}
use Rattle.std.proofs.lemmas.Result.{err_from_is_err_and}
use native.Mathlib.Omega.{arith}
use mathlib.Core.Path.{◌≡◌, sym, ◌∙◌}
use Rattle.lines.specs.declared.LocateError.TheVariants.{NoPlace}
use Rattle.lines_calls.proofs.Answers.{index_search, place_past, place_found}
use Rattle.lines_calls.proofs.asking.place_at.Goals as goal

pub returns-then-text-place : goal.returns-then-text-place
returns-then-text-place c = let a = c.args in place_past a.text.now a.index.now a.place c.requires c.if-text-place.true

pub line_at-line-requires : goal.line_at-line-requires
line_at-line-requires c = let a = c.args in index_search a.text.now a.index.now a.place c.requires

pub returns-in_err-column : goal.returns-in_err-column
returns-in_err-column c =
    let a = c.args in
    let f = c.line_at-line in
    let none : c.column_at.result ≡ None = grind arith in
    let err : c.in_err-column.field-0.0 ≡ NoPlace c.args.place = grind arith in
    let p = err_from_is_err_and c.from_residual.result c.from_residual.ensures.1 in
    rw (p.1, p.2, err)
    (place_found a.text.now a.index.now a.place c.requires
    f.result c.if-text-place.false f.ensures.0
    f.ensures.2 (rw c.wide-from.ensures at (sym c.column_at.ensures ∙ none)))

pub returns : goal.returns
returns c =
    let a = c.args in
    let f = c.line_at-line in
    let some : c.column_at.result ≡ Some c.in_ok-column.column = grind arith in
    place_found a.text.now a.index.now
    a.place c.requires f.result c.if-text-place.false
    f.ensures.0 f.ensures.2 (rw c.wide-from.ensures at (sym c.column_at.ensures ∙ some))
