-- The test is the definition's.
use borrow.Author.Tests.{lt-ltb, le-ltb}
use Rattle.findings.specs.Rows.{depth_at}
use Rattle.findings.proofs.rows.depth_at.Goals as goal

pub returns-then-p-rows : goal.returns-then-p-rows
unfolding depth_at
returns-then-p-rows c = simp (lt-ltb _ _ c.if-p-rows.true, c.row_at-row.ensures)

pub returns : goal.returns
unfolding depth_at
returns c = simp (le-ltb _ _ c.if-p-rows.false, c.depth_after.ensures, c.last_row-last.ensures)
