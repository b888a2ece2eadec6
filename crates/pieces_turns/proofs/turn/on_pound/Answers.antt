-- An exclamation mark or not.
use mathlib.Core.Path.{refl}
use native.Mathlib.Omega.{arith}
use borrow.Author.Tests.{eq-eqb, ne_eqb}
use Rattle.pieces_turns.proofs.turn.on_pound.Goals as goal

pub overflow_add-m : goal.overflow_add-m
overflow_add-m c = omega (arith, c.char_width.ensures)

pub returns-then-c-eq-BANG : goal.returns-then-c-eq-BANG
returns-then-c-eq-BANG c = rw (eq-eqb _ _ c.if-c-eq-BANG.true, c.go_on.ensures, c.marks_at.ensures, c.char_width.ensures) (refl, refl)

pub on_item-requires : goal.on_item-requires
on_item-requires c =
    (c.requires.0, c.requires.1, refl)

pub returns : goal.returns
returns c = rw (ne_eqb _ _ c.if-c-eq-BANG.false) c.on_item.ensures
