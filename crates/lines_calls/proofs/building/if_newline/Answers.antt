-- By the test.
use borrow.Author.Tests.{eq-eqb, ne_eqb}
use Rattle.lines.specs.Starts.{newline}
use Rattle.lines_calls.proofs.building.if_newline.Goals as goal

pub returns-then-b-eq10 : goal.returns-then-b-eq10
returns-then-b-eq10 c = rw (eq-eqb c.args.b newline c.if-b-eq10.true)

pub returns-else-b-eq10 : goal.returns-else-b-eq10
returns-else-b-eq10 c = rw (ne_eqb c.args.b newline c.if-b-eq10.false)
