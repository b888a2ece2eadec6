-- The tests are the definition's, in its order.
use borrow.Author.Tests.{eq-eqb, ne_eqb}
use Rattle.findings.specs.Told.{error_end}
use Rattle.findings.proofs.telling.error_end.Goals as goal

pub returns-then-row-eq-INCOMPLETE_STRING : goal.returns-then-row-eq-INCOMPLETE_STRING
unfolding error_end
returns-then-row-eq-INCOMPLETE_STRING c = rw (eq-eqb _ _ c.if-row-eq-INCOMPLETE_STRING.true) c.bytes_on.ensures

pub returns-then-row-eq-INCOMPLETE_IDENTIFIER : goal.returns-then-row-eq-INCOMPLETE_IDENTIFIER
unfolding error_end
returns-then-row-eq-INCOMPLETE_IDENTIFIER c = rw (ne_eqb _ _ c.if-row-eq-INCOMPLETE_STRING.false, eq-eqb _ _ c.if-row-eq-INCOMPLETE_IDENTIFIER.true) c.bytes_on-then-row-eq-INCOMPLETE_IDENTIFIER.ensures

pub returns-then-row-eq-INCOMPLETE_COMMENT : goal.returns-then-row-eq-INCOMPLETE_COMMENT
unfolding error_end
returns-then-row-eq-INCOMPLETE_COMMENT c =
    let if1 = c.if-row-eq-INCOMPLETE_STRING in
    let if2 = c.if-row-eq-INCOMPLETE_IDENTIFIER in
    rw (ne_eqb _ _ if1.false, ne_eqb _ _ if2.false, eq-eqb _ _ c.if-row-eq-INCOMPLETE_COMMENT.true) c.bytes_on-then-row-eq-INCOMPLETE_COMMENT.ensures

pub returns : goal.returns
unfolding error_end
returns c =
    let if1 = c.if-row-eq-INCOMPLETE_STRING in
    rw (ne_eqb _ _ if1.false, ne_eqb _ _ c.if-row-eq-INCOMPLETE_IDENTIFIER.false, ne_eqb _ _ c.if-row-eq-INCOMPLETE_COMMENT.false)
