-- The first byte is asked for only where there is a second.
use Rattle.laws.proofs.Choice.{and_no, and_yes}
use borrow.Author.Tests.{le-ltb, lt-ltb}
use Rattle.meaning.proofs.splits.Goals as goal

pub returns-then-raw-le1 : goal.returns-then-raw-le1
returns-then-raw-le1 c = rw (le-ltb _ _ c.if-raw-le1.true, and_no)

pub returns : goal.returns
returns c = rw (lt-ltb _ _ c.if-raw-le1.false, and_yes)
