-- The test is the definition's.
use borrow.Author.Tests.{le-leb, lt-leb}
use Rattle.findings.proofs.rows.bytes_on.Goals as goal

pub returns-then-next-le-LIMIT : goal.returns-then-next-le-LIMIT
returns-then-next-le-LIMIT c = simp (le-leb _ _ c.if-next-le-LIMIT.true)

pub returns-else-next-le-LIMIT : goal.returns-else-next-le-LIMIT
returns-else-next-le-LIMIT c = simp (lt-leb _ _ c.if-next-le-LIMIT.false)
