-- The test is the definition's, and each field a word.
use borrow.Author.Tests.{lt-ltb, le-ltb}
use Rattle.findings.specs.Rows.{row_at}
use Rattle.findings.proofs.rows.row_at.Goals as goal

pub returns-then-p-rows : goal.returns-then-p-rows
unfolding row_at
returns-then-p-rows c =
    let if1 = c.if-p-rows in
    simp (lt-ltb _ _ if1.true)

pub returns : goal.returns
unfolding row_at
returns c = simp (le-ltb _ _ c.if-p-rows.false)
