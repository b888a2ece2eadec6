-- By the test.
use borrow.Author.Tests.{eq-eqb, ne_eqb}
use Rattle.lines.specs.Starts.{newline}
use Rattle.lines_calls.proofs.pieces.moved.Goals as goal
use Rattle.lines_calls.proofs.pieces.moved.Goals.{then-b-eq10, else-b-eq10}

pub returns : goal.returns
returns c = elim c.if-b-eq10.branch [
  | then-b-eq10 w ↦ rw (w.lines-is, eq-eqb c.args.b newline w.if-b-eq10.true)
  | else-b-eq10 w ↦ rw (w.lines-is, ne_eqb c.args.b newline w.if-b-eq10.false)
]
