-- The tests are those of `kind_of`.
use borrow.Author.Tests.{eq-eqb, ne_eqb, lt-ltb, le-ltb}
use Rattle.nested.proofs.frames.shape_kind.Goals as goal

pub returns-then-s-lt-VECTOR : goal.returns-then-s-lt-VECTOR
returns-then-s-lt-VECTOR c = simp (lt-ltb _ _ c.if-s-lt-VECTOR.true)

pub returns-then-s-eq-VECTOR : goal.returns-then-s-eq-VECTOR
returns-then-s-eq-VECTOR c = simp (le-ltb _ _ c.if-s-lt-VECTOR.false, eq-eqb _ _ c.if-s-eq-VECTOR.true)

pub returns : goal.returns
returns c = simp (le-ltb _ _ c.if-s-lt-VECTOR.false, ne_eqb _ _ c.if-s-eq-VECTOR.false)
