-- The limit, then what the byte does to a character, as `turn_of` has it.
use Prim.Native.Nat.{◌+◌}
use mathlib.Core.Path.{refl, sym, ◌∙◌}
use native.Mathlib.Omega.{arith}
use borrow.Author.Tests.{le-leb, lt-leb}
use Rattle.pieces_giving.specs.Answers.{state_of}
use Rattle.pieces.specs.Calls.{turn_of}
use Rattle.pieces_turns.proofs.Sounds.{char_fits}
use Rattle.pieces_turns.proofs.Told.{sane}
use Rattle.pieces_turns.proofs.turn.turn.Goals as goal

pub overflow_add-m : goal.overflow_add-m
overflow_add-m c =
    omega (arith, (sane (state_of c.args.m c.args.buf.now) c.requires.bounded c.requires.calm).numbers.far)

pub returns-then-m-part-ge-LIMIT : goal.returns-then-m-part-ge-LIMIT
unfolding turn_of
returns-then-m-part-ge-LIMIT c =
    rw (le-leb 4294967295 (c.args.m.at + c.args.m.part.count) c.if-m-part-ge-LIMIT.true, c.stop.ensures) (refl, refl)

pub overflow_add-part : goal.overflow_add-part
overflow_add-part c =
    omega (arith, (sane (state_of c.args.m c.args.buf.now) c.requires.bounded c.requires.calm).numbers.far)

pub on_char-requires : goal.on_char-requires
on_char-requires c = (
  c.requires,
  char_fits (state_of c.args.m c.args.buf.now) (sane (state_of c.args.m c.args.buf.now)
      c.requires.bounded c.requires.calm) c.args.b _ c.if-m-part-ge-LIMIT.false
      (sym c.byte_step.ensures ∙ c.in-Char.is),
)

pub returns-in-More : goal.returns-in-More
unfolding turn_of
returns-in-More c =
    rw (
      lt-leb 4294967295 (c.args.m.at + c.args.m.part.count) c.if-m-part-ge-LIMIT.false,
      sym c.byte_step.ensures ∙ c.in-More.is,
      c.go_on.ensures,
      c.with_part.ensures,
    ) (refl, refl)

pub returns-in-Char : goal.returns-in-Char
unfolding turn_of
returns-in-Char c =
    rw (
      lt-leb 4294967295 (c.args.m.at + c.args.m.part.count) c.if-m-part-ge-LIMIT.false,
      sym c.byte_step.ensures ∙ c.in-Char.is,
    ) c.on_char.ensures

pub returns-in-Bad : goal.returns-in-Bad
unfolding turn_of
returns-in-Bad c =
    rw (
      lt-leb 4294967295 (c.args.m.at + c.args.m.part.count) c.if-m-part-ge-LIMIT.false,
      sym c.byte_step.ensures ∙ c.in-Bad.is,
      c.stop-in-Bad.ensures,
    ) (refl, refl)
