-- Only a byte that is known is compared.
use borrow.Author.Tests.{eqb-false, not-true}
use Rattle.laws.proofs.Choice.{no_yes}
use Rattle.steps.proofs.search.differs.Goals as goal

pub returns-then-count-q : goal.returns-then-count-q
returns-then-count-q c = no_yes

pub returns : goal.returns
returns c h = (c.if-count-q.false, eqb-false _ _ (not-true _ h))
