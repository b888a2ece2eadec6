-- One test, as the machine has it.
use borrow.Author.Tests.{eq-eqb, ne_eqb}
use Rattle.steps.proofs.machine.after_comma.Goals as goal

pub returns-then-c-eq-AT : goal.returns-then-c-eq-AT
returns-then-c-eq-AT c = simp (eq-eqb _ _ c.if-c-eq-AT.true)

pub returns : goal.returns
returns c = simp (ne_eqb _ _ c.if-c-eq-AT.false)
