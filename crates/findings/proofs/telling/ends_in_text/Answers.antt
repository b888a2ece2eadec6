-- The tests are the definition's.
use borrow.Author.Tests.{eq-eqb, ne_eqb}
use Rattle.findings.specs.Told.{ends_in_text}
use Rattle.findings.proofs.telling.ends_in_text.Goals as goal

pub returns-else-last-eq-INCOMPLETE_STRING : goal.returns-else-last-eq-INCOMPLETE_STRING
unfolding ends_in_text
returns-else-last-eq-INCOMPLETE_STRING c = rw (← c.last_row-last.ensures) (rw (ne_eqb _ _ c.if-last-eq-INCOMPLETE_STRING.false))

pub returns-then-last-eq-INCOMPLETE_STRING : goal.returns-then-last-eq-INCOMPLETE_STRING
unfolding ends_in_text
returns-then-last-eq-INCOMPLETE_STRING c =
    let last_row = c.last_row-last in
    rw (← last_row.ensures, ← c.byte_at.ensures) (rw (eq-eqb _ _ c.if-last-eq-INCOMPLETE_STRING.true))
