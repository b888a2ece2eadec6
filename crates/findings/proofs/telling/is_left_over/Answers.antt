-- The tests are the definition's.
use borrow.Author.Tests.{lt-ltb, le-ltb}
use Rattle.findings.proofs.telling.is_left_over.Goals as goal

pub returns-then-first-rows : goal.returns-then-first-rows
returns-then-first-rows c = rw (lt-ltb _ _ c.if-first-rows.true) c.ends_in_text.ensures

pub returns-else-first-rows : goal.returns-else-first-rows
returns-else-first-rows c = rw (le-ltb _ _ c.if-first-rows.false)
