-- The tests are the definition's.
use borrow.Author.Tests.{eq-eqb, ne_eqb}
use Rattle.findings.specs.Lists.{is_mark}
use Rattle.findings.proofs.lists.is_mark.Goals as goal

pub returns-then-kind-eq-DATUM_COMMENT : goal.returns-then-kind-eq-DATUM_COMMENT
unfolding is_mark
returns-then-kind-eq-DATUM_COMMENT c = rw (eq-eqb _ _ c.if-kind-eq-DATUM_COMMENT.true)

pub returns-else-kind-eq-DATUM_COMMENT : goal.returns-else-kind-eq-DATUM_COMMENT
unfolding is_mark
returns-else-kind-eq-DATUM_COMMENT c = rw (ne_eqb _ _ c.if-kind-eq-DATUM_COMMENT.false) c.is_within.ensures
