-- One test, as the machine has it.
use borrow.Author.Tests.{eq-eqb, ne_eqb}
use Rattle.steps.proofs.here.after_angle.Goals as goal

pub returns-then-c-eq-LESS : goal.returns-then-c-eq-LESS
returns-then-c-eq-LESS c = simp (eq-eqb _ _ c.if-c-eq-LESS.true)

pub returns : goal.returns
returns c = simp (ne_eqb _ _ c.if-c-eq-LESS.false, c.enter_word.ensures)
