-- One test, as the machine has it.
use borrow.Author.Tests.{eq-eqb, ne_eqb}
use Rattle.items.specs.Readers.{hash_kind}
use Rattle.steps.proofs.hash.hash_comma.Goals as goal

pub returns-then-c-eq-AT : goal.returns-then-c-eq-AT
unfolding hash_kind
returns-then-c-eq-AT c = simp (eq-eqb _ _ c.if-c-eq-AT.true)

pub returns : goal.returns
unfolding hash_kind
returns c = simp (ne_eqb _ _ c.if-c-eq-AT.false, c.hash_then.ensures, c.hash_kind.ensures)
