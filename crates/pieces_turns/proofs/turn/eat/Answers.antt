-- Whether there is room for one character more, as `on_next` has it.
use Prim.Native.Nat.{◌+◌}
use native.Mathlib.Omega.{arith}
use borrow.Author.Tests.{lt-ltb, le-ltb}
use Rattle.chars.specs.Encode.{width}
use Rattle.chars.proofs.Width.{width_le}
use Rattle.pieces_turns.proofs.turn.eat.Goals as goal

pub overflow_add-len : goal.overflow_add-len
overflow_add-len c = omega (arith, c.char_width-width.ensures, width_le c.args.c)

pub returns-then-len-width-gt-LONGEST : goal.returns-then-len-width-gt-LONGEST
returns-then-len-width-gt-LONGEST c =
    λ text. simp (lt-ltb 4096 (c.args.m.len + width c.args.c) (omega (arith, c.char_width-width.ensures)), c.stop.ensures)

pub lay-requires : goal.lay-requires
lay-requires c =
    (c.requires.0, omega (arith, c.char_width-width.ensures), c.requires.2.small)

pub overflow_add-m : goal.overflow_add-m
overflow_add-m c = omega (arith, c.char_width-width.ensures, width_le c.args.c)

pub overflow_add-len-2 : goal.overflow_add-len-2
overflow_add-len-2 c = omega (arith, c.char_width-width.ensures, width_le c.args.c)

pub returns : goal.returns
returns c =
    λ text. simp (
      le-ltb 4096 (c.args.m.len
          + width c.args.c)
          (omega (arith, c.char_width-width.ensures)),
      c.go_on.ensures,
      c.marks_at.ensures,
      c.lay.ensures,
      c.char_width-width.ensures,
    )
