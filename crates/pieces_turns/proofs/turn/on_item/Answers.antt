-- The machine's step says whether the character belongs to the item.
use mathlib.Core.Path.{sym, ◌∙◌}
use lib.Seq.{length-take-le}
use native.Mathlib.Omega.{arith}
use Rattle.pieces_giving.specs.Answers.{state_of}
use Rattle.pieces_turns.proofs.Sounds.{stop_fits}
use Rattle.pieces_turns.proofs.Told.{told_phase, deep}
use Rattle.pieces_turns.proofs.Stands.{eat_quiet}
use Rattle.pieces_turns.proofs.turn.on_item.Goals as goal

pub slice_bounds-step-end-2 : goal.slice_bounds-step-end-2
slice_bounds-step-end-2 c =
    sym (length-take-le c.args.m.len c.args.buf.now (omega arith))

pub step-requires : goal.step-requires
step-requires c =
    let l = length-take-le c.args.m.len c.args.buf.now (omega arith) in (
      omega (arith, l),
      omega (arith, deep c.args.phase c.args.m.len (told_phase c.args.phase c.args.m.len c.requires.2)),
      omega arith,
    )

pub eat-requires : goal.eat-requires
eat-requires c =
    (c.requires.0.full, c.requires.0.small, c.requires.1)

pub ends-requires : goal.ends-requires
ends-requires c = (
  c.requires.0,
  stop_fits (state_of c.args.m c.args.buf.now) c.requires.0.full c.requires.0.small c.requires.0.some
      c.args.phase c.requires.2 c.args.c (omega (arith, c.requires.0.ends))
      c.requires.1.far _ (sym c.step.ensures ∙ c.in-Stop.is),
  c.requires.1,
)

pub returns-in-Eat : goal.returns-in-Eat
returns-in-Eat c =
    rw (sym c.step.ensures ∙ c.in-Eat.is) (
      c.eat.ensures c.args.text.now,
      sym (eat_quiet (state_of c.args.m c.args.buf.now) c.args.start c.args.c _ c.args.text.now),
    )

pub returns-in-Stop : goal.returns-in-Stop
returns-in-Stop c =
    rw (sym c.step.ensures ∙ c.in-Stop.is)
    c.ends.ensures
