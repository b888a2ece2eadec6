-- One test, as `enter_word` has it.
use borrow.Author.Tests.{eq-eqb, ne_eqb}
use Rattle.steps.proofs.words.enter_word.Goals as goal

pub returns-then-c-eq-VERTICAL : goal.returns-then-c-eq-VERTICAL
returns-then-c-eq-VERTICAL c = simp (eq-eqb _ _ c.if-c-eq-VERTICAL.true)

pub returns : goal.returns
returns c = simp (ne_eqb _ _ c.if-c-eq-VERTICAL.false, c.read_word.ensures)
