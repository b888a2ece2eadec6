-- The tests are the definition's, in its order.
use borrow.Author.Tests.{eq-eqb, ne_eqb, lt-ltb, le-ltb}
use Rattle.findings.specs.Told.{row_told}
use Rattle.findings.proofs.telling.row_told.Goals as goal

pub returns-then-row-gt0 : goal.returns-then-row-gt0
unfolding row_told
returns-then-row-gt0 c = rw (← c.row_at-row.ensures) (rw (lt-ltb _ _ c.if-row-gt0.true) c.error_told.ensures)

pub returns-then-row-eq-IDENTIFIER : goal.returns-then-row-eq-IDENTIFIER
unfolding row_told
returns-then-row-eq-IDENTIFIER c =
    let row_at = c.row_at-row in
    let if1 = c.if-row-gt0 in
    rw (← row_at.ensures) (rw (le-ltb _ _ if1.false, eq-eqb _ _ c.if-row-eq-IDENTIFIER.true) c.name_or_nothing.ensures)

pub returns-then-row-eq-STRING_LITERAL : goal.returns-then-row-eq-STRING_LITERAL
unfolding row_told
returns-then-row-eq-STRING_LITERAL c =
    let row_at = c.row_at-row in
    let if1 = c.if-row-gt0 in
    let if2 = c.if-row-eq-IDENTIFIER in
    rw (← row_at.ensures)
    (rw (le-ltb _ _ if1.false, ne_eqb _ _ if2.false, eq-eqb _ _ c.if-row-eq-STRING_LITERAL.true) c.text_told.ensures)

pub returns-then-row-eq-NUMBER : goal.returns-then-row-eq-NUMBER
unfolding row_told
returns-then-row-eq-NUMBER c =
    let row_at = c.row_at-row in
    let if1 = c.if-row-gt0 in
    let if2 = c.if-row-eq-IDENTIFIER in
    let if3 = c.if-row-eq-STRING_LITERAL in
    rw (← row_at.ensures)
    (rw (le-ltb _ _ if1.false, ne_eqb _ _ if2.false, ne_eqb _ _ if3.false, eq-eqb _ _ c.if-row-eq-NUMBER.true) c.number_told.ensures)

pub returns : goal.returns
unfolding row_told
returns c =
    let row_at = c.row_at-row in
    let if1 = c.if-row-gt0 in
    let if2 = c.if-row-eq-IDENTIFIER in
    rw (← row_at.ensures)
    (rw (le-ltb _ _ if1.false, ne_eqb _ _ if2.false, ne_eqb _ _ c.if-row-eq-STRING_LITERAL.false, ne_eqb _ _ c.if-row-eq-NUMBER.false))
