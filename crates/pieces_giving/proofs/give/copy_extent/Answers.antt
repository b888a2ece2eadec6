-- A number or not.
use mathlib.Core.Path.{refl}
use borrow.Author.Tests.{eq-eqb, ne_eqb}
use Rattle.pieces_giving.proofs.give.copy_extent.Goals as goal

pub returns-then-kind-eq-NUMBER : goal.returns-then-kind-eq-NUMBER
returns-then-kind-eq-NUMBER c = rw (eq-eqb _ _ c.if-kind-eq-NUMBER.true) (refl, c.copy_all.ensures)

pub returns : goal.returns
returns c = rw (ne_eqb _ _ c.if-kind-eq-NUMBER.false) (refl, refl)
