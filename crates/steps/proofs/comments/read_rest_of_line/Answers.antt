-- One test, as `on_line` has it.
use borrow.Author.Tests.{eq-eqb, ne_eqb}
use Rattle.steps.proofs.comments.read_rest_of_line.Goals as goal

pub returns-then-c-eq-NEWLINE : goal.returns-then-c-eq-NEWLINE
returns-then-c-eq-NEWLINE c = simp (eq-eqb _ _ c.if-c-eq-NEWLINE.true, c.comment_ends.ensures)

pub returns : goal.returns
returns c = simp (ne_eqb _ _ c.if-c-eq-NEWLINE.false)
