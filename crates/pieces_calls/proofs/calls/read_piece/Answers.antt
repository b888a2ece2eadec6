-- 27, 24, then by the stage, as `piece_of` has it.
use mathlib.Core.Path.{refl, sym, ap, ◌∙◌}
use lib.ListN.{length}
use lib.Dec.{ltb}
use borrow.Author.Tests.{not-true, not-false, lt-ltb, le-ltb}
use Rattle.pieces_giving.specs.Answers.{state_of}
use Rattle.pieces.specs.Bounds.{is_in_bounds}
use Rattle.pieces.specs.Calls.{piece_of}
use Rattle.pieces.specs.Expected.{longest}
use Rattle.pieces_turns.specs.Inner.{reads_on}
use Rattle.pieces_calls.proofs.Replies.{reply_yes, reply_no, piece_stage_lem, held_waiting}
use Rattle.pieces_calls.proofs.calls.read_piece.Goals as goal

pub returns-then-not-in_bounds : goal.returns-then-not-in_bounds
unfolding piece_of
returns-then-not-in_bounds c =
    reply_no c.args.text.now (is_in_bounds (state_of c.args.m c.args.buf.now)) _ _
    (sym (c.in_bounds.ensures c.args.buf.now) ∙ not-true _ c.if-not-in_bounds.true-raw) (rw c.refuse.ensures (refl, refl))

pub returns-then-text-lt-LONGEST : goal.returns-then-text-lt-LONGEST
unfolding piece_of
returns-then-text-lt-LONGEST c =
    reply_yes c.args.text.now (is_in_bounds (state_of c.args.m c.args.buf.now)) _ _
    (sym (c.in_bounds.ensures c.args.buf.now) ∙ not-false _ c.if-not-in_bounds.false-raw)
    (reply_yes c.args.text.now
    (ltb (length c.args.text.now) longest) _ _ (lt-ltb _ _ c.if-text-lt-LONGEST.true) (rw c.refuse-then-text-lt-LONGEST.ensures (refl, refl)))

pub piece_on-requires : goal.piece_on-requires
piece_on-requires c =
    record {
      bounded = (sym (c.in_bounds.ensures c.args.buf.now) ∙ not-false _ c.if-not-in_bounds.false-raw);
      calm = ap reads_on c.in-Opening.is;
      full = c.requires;
      room = c.if-text-lt-LONGEST.false;
    }

pub piece_on-requires-in-Pound : goal.piece_on-requires-in-Pound
piece_on-requires-in-Pound c =
    record {
      bounded = (sym (c.in_bounds.ensures c.args.buf.now) ∙ not-false _ c.if-not-in_bounds.false-raw);
      calm = ap reads_on c.in-Pound.is;
      full = c.requires;
      room = c.if-text-lt-LONGEST.false;
    }

pub piece_on-requires-in-FirstLine : goal.piece_on-requires-in-FirstLine
piece_on-requires-in-FirstLine c =
    record {
      bounded = (sym (c.in_bounds.ensures c.args.buf.now) ∙ not-false _ c.if-not-in_bounds.false-raw);
      calm = ap reads_on c.in-FirstLine.is;
      full = c.requires;
      room = c.if-text-lt-LONGEST.false;
    }

pub piece_on-requires-in-Idle : goal.piece_on-requires-in-Idle
piece_on-requires-in-Idle c =
    record {
      bounded = (sym (c.in_bounds.ensures c.args.buf.now) ∙ not-false _ c.if-not-in_bounds.false-raw);
      calm = ap reads_on c.in-Idle.is;
      full = c.requires;
      room = c.if-text-lt-LONGEST.false;
    }

pub piece_on-requires-in-Busy : goal.piece_on-requires-in-Busy
piece_on-requires-in-Busy c =
    record {
      bounded = (sym (c.in_bounds.ensures c.args.buf.now) ∙ not-false _ c.if-not-in_bounds.false-raw);
      calm = ap reads_on c.in-Busy.is;
      full = c.requires;
      room = c.if-text-lt-LONGEST.false;
    }

pub piece_waiting-requires : goal.piece_waiting-requires
piece_waiting-requires c =
    held_waiting (state_of c.args.m c.args.buf.now)
    c.args.text.now (sym (c.in_bounds.ensures c.args.buf.now) ∙ not-false _ c.if-not-in_bounds.false-raw)
    c.requires c.if-text-lt-LONGEST.false _ _ c.in-Waiting.is

pub returns-in-Opening : goal.returns-in-Opening
unfolding piece_of
returns-in-Opening c =
    reply_yes c.args.text.now (is_in_bounds (state_of c.args.m c.args.buf.now)) _ _
    (sym (c.in_bounds.ensures c.args.buf.now) ∙ not-false _ c.if-not-in_bounds.false-raw)
    (reply_no c.args.text.now (ltb (length c.args.text.now) longest) _ _
    (le-ltb _ _ c.if-text-lt-LONGEST.false) (piece_stage_lem (state_of c.args.m c.args.buf.now) c.args.piece.now
    c.args.text.now c.args.m.stage _ c.in-Opening.is c.piece_on.ensures))

pub returns-in-Pound : goal.returns-in-Pound
unfolding piece_of
returns-in-Pound c =
    reply_yes c.args.text.now (is_in_bounds (state_of c.args.m c.args.buf.now)) _ _
    (sym (c.in_bounds.ensures c.args.buf.now) ∙ not-false _ c.if-not-in_bounds.false-raw)
    (reply_no c.args.text.now (ltb (length c.args.text.now) longest) _ _
    (le-ltb _ _ c.if-text-lt-LONGEST.false) (piece_stage_lem (state_of c.args.m c.args.buf.now) c.args.piece.now
    c.args.text.now c.args.m.stage _ c.in-Pound.is c.piece_on-in-Pound.ensures))

pub returns-in-FirstLine : goal.returns-in-FirstLine
unfolding piece_of
returns-in-FirstLine c =
    reply_yes c.args.text.now (is_in_bounds (state_of c.args.m c.args.buf.now)) _ _
    (sym (c.in_bounds.ensures c.args.buf.now) ∙ not-false _ c.if-not-in_bounds.false-raw)
    (reply_no c.args.text.now (ltb (length c.args.text.now) longest) _ _
    (le-ltb _ _ c.if-text-lt-LONGEST.false) (piece_stage_lem (state_of c.args.m c.args.buf.now) c.args.piece.now
    c.args.text.now c.args.m.stage _ c.in-FirstLine.is c.piece_on-in-FirstLine.ensures))

pub returns-in-Idle : goal.returns-in-Idle
unfolding piece_of
returns-in-Idle c =
    reply_yes c.args.text.now (is_in_bounds (state_of c.args.m c.args.buf.now)) _ _
    (sym (c.in_bounds.ensures c.args.buf.now) ∙ not-false _ c.if-not-in_bounds.false-raw)
    (reply_no c.args.text.now (ltb (length c.args.text.now) longest) _ _
    (le-ltb _ _ c.if-text-lt-LONGEST.false) (piece_stage_lem (state_of c.args.m c.args.buf.now) c.args.piece.now
    c.args.text.now c.args.m.stage _ c.in-Idle.is c.piece_on-in-Idle.ensures))

pub returns-in-Busy : goal.returns-in-Busy
unfolding piece_of
returns-in-Busy c =
    reply_yes c.args.text.now (is_in_bounds (state_of c.args.m c.args.buf.now)) _ _
    (sym (c.in_bounds.ensures c.args.buf.now) ∙ not-false _
    c.if-not-in_bounds.false-raw) (reply_no c.args.text.now (ltb (length c.args.text.now) longest) _ _
    (le-ltb _ _ c.if-text-lt-LONGEST.false) (piece_stage_lem (state_of c.args.m c.args.buf.now)
    c.args.piece.now c.args.text.now c.args.m.stage _ c.in-Busy.is c.piece_on-in-Busy.ensures))

pub returns-in-Waiting : goal.returns-in-Waiting
unfolding piece_of
returns-in-Waiting c =
    reply_yes c.args.text.now (is_in_bounds (state_of c.args.m c.args.buf.now)) _ _
    (sym (c.in_bounds.ensures c.args.buf.now) ∙ not-false _
    c.if-not-in_bounds.false-raw) (reply_no c.args.text.now (ltb (length c.args.text.now) longest) _ _
    (le-ltb _ _ c.if-text-lt-LONGEST.false) (piece_stage_lem (state_of c.args.m c.args.buf.now)
    c.args.piece.now c.args.text.now c.args.m.stage _ c.in-Waiting.is c.piece_waiting.ensures))

pub returns-in-Stopped : goal.returns-in-Stopped
unfolding piece_of
returns-in-Stopped c =
    reply_yes c.args.text.now (is_in_bounds (state_of c.args.m c.args.buf.now)) _ _
    (sym (c.in_bounds.ensures c.args.buf.now) ∙ not-false _ c.if-not-in_bounds.false-raw)
    (reply_no c.args.text.now (ltb (length c.args.text.now) longest) _ _
    (le-ltb _ _ c.if-text-lt-LONGEST.false) (piece_stage_lem (state_of c.args.m c.args.buf.now) c.args.piece.now
    c.args.text.now c.args.m.stage _ c.in-Stopped.is (rw c.refuse-in-Stopped.ensures (refl, refl))))
