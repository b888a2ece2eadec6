-- A blank or not, as `begin` has it.
use mathlib.Core.Path.{sym, ◌∙◌}
use native.Mathlib.Omega.{arith}
use Rattle.chars.proofs.Width.{width_le}
use Rattle.pieces_giving.proofs.ends.begin.Goals as goal

pub overflow_add-at : goal.overflow_add-at
overflow_add-at c = omega (arith, c.char_width-width.ensures)

pub returns-then-is_blank : goal.returns-then-is_blank
returns-then-is_blank c = simp (sym c.is_blank.ensures ∙ c.if-is_blank.true, c.marks_at.ensures, c.char_width-width.ensures)

pub lay-requires : goal.lay-requires
lay-requires c =
    (c.requires.0, omega (arith, width_le c.args.c), c.requires.1.small)

pub overflow_add-at-2 : goal.overflow_add-at-2
overflow_add-at-2 c = omega (arith, c.char_width-width.ensures)

pub returns : goal.returns
returns c =
    simp (
      sym c.is_blank.ensures ∙ c.if-is_blank.false,
      c.marks_at-2.ensures,
      c.first_phase.ensures,
      c.lay.ensures,
      c.char_width-width.ensures,
    )
