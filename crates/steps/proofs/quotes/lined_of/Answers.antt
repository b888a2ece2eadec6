-- The tests of `lined_of` in its order: the length, the first byte, the last byte.
use borrow.Author.Tests.{le-leb, lt-leb, eq-eqb, ne_eqb}
use Rattle.items.specs.Readers.{lined_of}
use Rattle.steps.proofs.quotes.lined_of.Goals as goal

pub returns-then-n-le1 : goal.returns-then-n-le1
unfolding lined_of
returns-then-n-le1 c = simp (le-leb _ _ c.if-n-le1.true)

pub returns-then-raw-eq43 : goal.returns-then-raw-eq43
unfolding lined_of
returns-then-raw-eq43 c = simp (lt-leb _ _ c.if-n-le1.false, eq-eqb _ _ c.if-raw-eq43.true)

pub returns-then-raw-ne124 : goal.returns-then-raw-ne124
unfolding lined_of
returns-then-raw-ne124 c = simp (lt-leb _ _ c.if-n-le1.false, ne_eqb _ _ c.if-raw-eq43.false, ne_eqb _ _ c.if-raw-ne124.true)

pub returns-then-raw-n-eq124 : goal.returns-then-raw-n-eq124
unfolding lined_of
returns-then-raw-n-eq124 c = simp (
  lt-leb _ _ c.if-n-le1.false,
  ne_eqb _ _ c.if-raw-eq43.false,
  eq-eqb _ _ c.if-raw-ne124.false,
  eq-eqb _ _ c.if-raw-n-eq124.true,
)

pub returns : goal.returns
unfolding lined_of
returns c = simp (
  lt-leb _ _ c.if-n-le1.false,
  ne_eqb _ _ c.if-raw-eq43.false,
  eq-eqb _ _ c.if-raw-ne124.false,
  ne_eqb _ _ c.if-raw-n-eq124.false,
)
