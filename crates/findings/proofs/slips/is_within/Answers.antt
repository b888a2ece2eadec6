-- The range from both sides.
use borrow.Author.Tests.{lt-leb}
use Rattle.laws.proofs.Choice.{within_below, within_from}
use Rattle.findings.proofs.slips.is_within.Goals as goal

pub returns-then-a-c : goal.returns-then-a-c
returns-then-a-c c = within_from c.args.a c.args.b c.args.c c.if-a-c.true

pub returns-else-a-c : goal.returns-else-a-c
returns-else-a-c c = rw (lt-leb _ _ c.if-a-c.false) (within_below c.args.a c.args.b c.args.c c.if-a-c.false)
