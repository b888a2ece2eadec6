-- One test, that of `begun_of`.
use borrow.Author.Tests.{eq-eqb, ne_eqb}
use Rattle.nested.proofs.frames.begun.Goals as goal

pub returns-then-n-eq0 : goal.returns-then-n-eq0
returns-then-n-eq0 c = simp (eq-eqb _ _ c.if-n-eq0.true)

pub returns : goal.returns
returns c = simp (ne_eqb _ _ c.if-n-eq0.false)
