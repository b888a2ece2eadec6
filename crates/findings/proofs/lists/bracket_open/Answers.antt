-- The tests are the definition's.
use mathlib.Core.Path.{sym, ◌∙◌}
use borrow.Author.Tests.{lt-ltb, le-ltb}
use Rattle.findings.specs.Lists.{bracket_open}
use Rattle.findings.proofs.lists.bracket_open.Goals as goal

pub returns-then-is_unclosed : goal.returns-then-is_unclosed
unfolding bracket_open
returns-then-is_unclosed c = rw (← c.last_row-last.ensures) (rw (sym c.is_unclosed.ensures ∙ c.if-is_unclosed.true))

pub returns-then-k-rows : goal.returns-then-k-rows
unfolding bracket_open
returns-then-k-rows c =
    let last_row = c.last_row-last in
    let is-unclosed = c.is_unclosed in
    let if1 = c.if-is_unclosed in
    rw (← last_row.ensures)
    (rw (sym is-unclosed.ensures ∙ if1.false, ← c.first_misfit-k.ensures)
    (rw (lt-ltb _ _ c.if-k-rows.true) c.around_misfit.ensures))

pub returns : goal.returns
unfolding bracket_open
returns c =
    let last_row = c.last_row-last in
    let is-unclosed = c.is_unclosed in
    let if1 = c.if-is_unclosed in
    rw (← last_row.ensures)
    (rw (sym is-unclosed.ensures ∙ if1.false, ← c.first_misfit-k.ensures)
    (rw (le-ltb _ _ c.if-k-rows.false) c.innermost_open.ensures))
