-- A pound sign or not.
use mathlib.Core.Path.{ap}
use native.Mathlib.Omega.{arith}
use borrow.Author.Tests.{eq-eqb, ne_eqb}
use Rattle.pieces.specs.Calls.{on}
use Rattle.chars.proofs.Width.{width_le}
use Rattle.pieces_turns.proofs.turn.on_first.Goals as goal

pub lay-requires : goal.lay-requires
lay-requires c =
    (c.requires.0, omega (arith, width_le c.args.c), c.requires.1.small)

pub overflow_add-m : goal.overflow_add-m
overflow_add-m c = omega (arith, c.char_width-width.ensures)

pub returns-then-c-eq-HASH : goal.returns-then-c-eq-HASH
returns-then-c-eq-HASH c =
    simp (eq-eqb _ _ c.if-c-eq-HASH.true, c.marks_at.ensures, c.lay.ensures, c.char_width-width.ensures)

pub begin-requires : goal.begin-requires
begin-requires c = c.requires

pub returns : goal.returns
returns c = rw (ne_eqb _ _ c.if-c-eq-HASH.false) (ap on c.begin.ensures)
