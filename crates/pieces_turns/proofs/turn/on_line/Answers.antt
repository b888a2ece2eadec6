-- A newline or not.
use mathlib.Core.Path.{ap}
use native.Mathlib.Omega.{arith}
use borrow.Author.Tests.{eq-eqb, ne_eqb}
use Rattle.pieces.specs.Calls.{on}
use Rattle.pieces_turns.proofs.turn.on_line.Goals as goal

pub begin-requires : goal.begin-requires
begin-requires c = c.requires

pub returns-then-c-eq-NEWLINE : goal.returns-then-c-eq-NEWLINE
returns-then-c-eq-NEWLINE c = rw (eq-eqb _ _ c.if-c-eq-NEWLINE.true) (ap on c.begin.ensures)

pub overflow_add-m : goal.overflow_add-m
overflow_add-m c = omega (arith, c.char_width.ensures)

pub returns : goal.returns
returns c = simp (ne_eqb _ _ c.if-c-eq-NEWLINE.false, c.marks_at.ensures, c.char_width.ensures)
