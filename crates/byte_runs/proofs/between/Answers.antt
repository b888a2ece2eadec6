-- The two tests of the definition, in its order.
use borrow.Author.Tests.{lt-leb, le-leb}
use Rattle.laws.specs.Quoted.{within}
use Rattle.byte_runs.proofs.between.Goals as goal

pub returns-then-a-c : goal.returns-then-a-c
unfolding within
returns-then-a-c c = rw (le-leb c.args.a c.args.c c.if-a-c.true)

pub returns-else-a-c : goal.returns-else-a-c
unfolding within
returns-else-a-c c = rw (lt-leb c.args.a c.args.c c.if-a-c.false)
