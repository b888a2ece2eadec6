-- The tests are those of `has_detail`, in its order; each arm answers what the definition is there.
use borrow.Author.Tests.{eq-eqb, ne_eqb, le-leb, lt-leb}
use Rattle.nested.specs.Items.{has_detail}
use Rattle.nested.proofs.classes.has_detail.Goals as goal

pub returns-then-d-le-VECTOR : goal.returns-then-d-le-VECTOR
unfolding has_detail
returns-then-d-le-VECTOR c = simp (eq-eqb _ _ c.if-k-eq-OPEN_PAREN.true, le-leb _ _ c.if-d-le-VECTOR.true)

pub returns-then-k-eq-OPEN_PAREN : goal.returns-then-k-eq-OPEN_PAREN
unfolding has_detail
returns-then-k-eq-OPEN_PAREN c = simp (eq-eqb _ _ c.if-k-eq-OPEN_PAREN.true, lt-leb _ _ c.if-d-le-VECTOR.false)

pub returns-then-k-eq-CLOSE_PAREN : goal.returns-then-k-eq-CLOSE_PAREN
unfolding has_detail
returns-then-k-eq-CLOSE_PAREN c = simp (ne_eqb _ _ c.if-k-eq-OPEN_PAREN.false, eq-eqb _ _ c.if-k-eq-CLOSE_PAREN.true)

pub returns-then-k-eq-CHARACTER_LITERAL : goal.returns-then-k-eq-CHARACTER_LITERAL
unfolding has_detail
returns-then-k-eq-CHARACTER_LITERAL c = simp (ne_eqb _ _ c.if-k-eq-OPEN_PAREN.false, ne_eqb _ _ c.if-k-eq-CLOSE_PAREN.false, eq-eqb _ _ c.if-k-eq-CHARACTER_LITERAL.true) c.is_scalar.ensures

pub returns-then-k-eq-BOOLEAN_LITERAL : goal.returns-then-k-eq-BOOLEAN_LITERAL
unfolding has_detail
returns-then-k-eq-BOOLEAN_LITERAL c = simp (ne_eqb _ _ c.if-k-eq-OPEN_PAREN.false, ne_eqb _ _ c.if-k-eq-CLOSE_PAREN.false, ne_eqb _ _ c.if-k-eq-CHARACTER_LITERAL.false, eq-eqb _ _ c.if-k-eq-BOOLEAN_LITERAL.true)

pub returns : goal.returns
unfolding has_detail
returns c = simp (ne_eqb _ _ c.if-k-eq-OPEN_PAREN.false, ne_eqb _ _ c.if-k-eq-CLOSE_PAREN.false, ne_eqb _ _ c.if-k-eq-CHARACTER_LITERAL.false, ne_eqb _ _ c.if-k-eq-BOOLEAN_LITERAL.false)
