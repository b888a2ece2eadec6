-- An arm for each stage.
use mathlib.Core.Path.{refl, ap}
use Rattle.pieces.specs.Calls.{on}
use Rattle.pieces_giving.specs.Answers.{state_of}
use Rattle.pieces_turns.proofs.Sounds.{held_busy, held_pound}
use Rattle.pieces_turns.proofs.Told.{sane}
use Rattle.pieces_turns.proofs.Stands.{on_stage_lem}
use Rattle.pieces_turns.proofs.turn.on_char.Goals as goal

pub on_first-requires : goal.on_first-requires
on_first-requires c =
    (c.requires.0.full, c.requires.1)

pub on_pound-requires : goal.on_pound-requires
on_pound-requires c = (
  held_pound (state_of c.args.m c.args.buf.now) c.args.text.now c.requires.0.full
      c.requires.0.room (sane (state_of c.args.m c.args.buf.now) c.requires.0.bounded c.requires.0.calm)
      c.in-Pound.is,
  c.requires.1,
)

pub on_line-requires : goal.on_line-requires
on_line-requires c =
    (c.requires.0.full, c.requires.1)

pub begin-requires : goal.begin-requires
begin-requires c =
    (c.requires.0.full, c.requires.1)

pub on_item-requires : goal.on_item-requires
on_item-requires c =
    let h = held_busy (state_of c.args.m c.args.buf.now) c.args.text.now c.requires.0.full
    c.requires.0.room (sane (state_of c.args.m c.args.buf.now) c.requires.0.bounded c.requires.0.calm) _ _
    c.in-Busy.is in (h.0, c.requires.1, h.1)

pub returns-in-Opening : goal.returns-in-Opening
returns-in-Opening c =
    on_stage_lem (state_of c.args.m c.args.buf.now) c.args.c c.args.text.now c.args.m.stage _
    c.in-Opening.is (rw c.go_on.ensures (c.on_first.ensures, refl))

pub returns-in-Pound : goal.returns-in-Pound
returns-in-Pound c =
    on_stage_lem (state_of c.args.m c.args.buf.now) c.args.c c.args.text.now c.args.m.stage _
    c.in-Pound.is c.on_pound.ensures

pub returns-in-FirstLine : goal.returns-in-FirstLine
returns-in-FirstLine c =
    on_stage_lem (state_of c.args.m c.args.buf.now) c.args.c c.args.text.now c.args.m.stage _
    c.in-FirstLine.is (rw c.go_on-in-FirstLine.ensures (c.on_line.ensures, refl))

pub returns-in-Idle : goal.returns-in-Idle
returns-in-Idle c =
    on_stage_lem (state_of c.args.m c.args.buf.now)
    c.args.c c.args.text.now c.args.m.stage _ c.in-Idle.is
    (rw c.go_on-in-Idle.ensures (ap on c.begin.ensures, refl))

pub returns-in-Busy : goal.returns-in-Busy
returns-in-Busy c =
    on_stage_lem (state_of c.args.m c.args.buf.now) c.args.c c.args.text.now c.args.m.stage _
    c.in-Busy.is c.on_item.ensures

pub returns-in-Waiting : goal.returns-in-Waiting
returns-in-Waiting c =
    on_stage_lem (state_of c.args.m c.args.buf.now)
    c.args.c c.args.text.now c.args.m.stage _ c.in-Waiting.is (rw c.go_on-in-Waiting.ensures (refl, refl))

pub returns-in-Stopped : goal.returns-in-Stopped
returns-in-Stopped c =
    on_stage_lem (state_of c.args.m c.args.buf.now)
    c.args.c c.args.text.now c.args.m.stage _ c.in-Stopped.is (rw c.go_on-in-Stopped.ensures (refl, refl))
