-- One test, that of `closer`.
use borrow.Author.Tests.{lt-ltb, le-ltb}
use Rattle.nested.proofs.refusals.closer_of.Goals as goal

pub returns-then-s-lt-VECTOR : goal.returns-then-s-lt-VECTOR
returns-then-s-lt-VECTOR c = simp (lt-ltb _ _ c.if-s-lt-VECTOR.true)

pub returns-else-s-lt-VECTOR : goal.returns-else-s-lt-VECTOR
returns-else-s-lt-VECTOR c = simp (le-ltb _ _ c.if-s-lt-VECTOR.false)
