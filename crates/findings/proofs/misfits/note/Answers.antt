-- The tests are the definition's.
use borrow.Author.Tests.{eq-eqb, ne_eqb, lt-ltb, le-ltb}
use Rattle.findings.specs.Misfits.{noted}
use Rattle.findings.proofs.misfits.note.Goals as goal

pub returns-then-d-kept : goal.returns-then-d-kept
unfolding noted
returns-then-d-kept c = simp (eq-eqb _ _ c.if-row-eq-OPEN_PAREN.true, lt-ltb _ _ c.if-d-kept.true)

pub returns-else-d-kept : goal.returns-else-d-kept
unfolding noted
returns-else-d-kept c = simp (eq-eqb _ _ c.if-row-eq-OPEN_PAREN.true, le-ltb _ _ c.if-d-kept.false)

pub returns-else-row-eq-OPEN_PAREN : goal.returns-else-row-eq-OPEN_PAREN
unfolding noted
returns-else-row-eq-OPEN_PAREN c = simp (ne_eqb _ _ c.if-row-eq-OPEN_PAREN.false)
