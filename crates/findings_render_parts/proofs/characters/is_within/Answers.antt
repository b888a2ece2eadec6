-- By the two tests.
use borrow.Author.Tests.{lt-leb}
use Rattle.laws.proofs.Choice.{within_below, within_from}
use Rattle.findings_render_parts.proofs.characters.is_within.Goals as goal

pub returns-then-low-c : goal.returns-then-low-c
returns-then-low-c c = within_from c.args.low c.args.high c.args.c c.if-low-c.true

pub returns-else-low-c : goal.returns-else-low-c
returns-else-low-c c = rw (lt-leb _ _ c.if-low-c.false) (within_below c.args.low c.args.high c.args.c c.if-low-c.false)
