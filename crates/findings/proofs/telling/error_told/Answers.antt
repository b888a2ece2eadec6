-- The test is the definition's.
use mathlib.Core.Path.{sym, ap, ◌∙◌}
use Rattle.findings.specs.Told.{error_of, error_told}
use Rattle.findings.proofs.telling.error_told.Goals as goal

pub returns-then-is_left_quote : goal.returns-then-is_left_quote
unfolding error_told
returns-then-is_left_quote c = rw (sym c.is_left_quote.ensures ∙ c.if-is_left_quote.true)

pub returns : goal.returns
unfolding error_told
returns c =
    let is-left-quote = c.is_left_quote in
    rw (sym is-left-quote.ensures ∙ c.if-is_left_quote.false) (c.error_of.ensures ∙ ap error_of c.row_at.ensures)
