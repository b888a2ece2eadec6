-- 27, 24, then by the stage, as `end_of` has it.
use mathlib.Core.Path.{refl, sym, ap, ◌∙◌, subst}
use lib.ListN.{length}
use lib.Dec.{ltb}
use borrow.Author.Tests.{not-true, not-false, lt-ltb, le-ltb}
use Rattle.pieces.specs.declared.Marks.{Marks}
use Rattle.pieces_giving.specs.Answers.{state_of}
use Rattle.pieces.specs.Bounds.{is_in_bounds}
use Rattle.pieces.specs.Calls.{declared, end_of}
use Rattle.pieces.specs.Expected.{longest}
use Rattle.pieces_giving.specs.Inner.{HoldsItem}
use Rattle.pieces_turns.specs.Inner.{reads_on}
use Rattle.pieces_calls.proofs.Replies.{reply_yes, reply_no, end_stage_lem, idle_quiet, held_declared, held_waiting}
use Rattle.pieces_turns.proofs.Sounds.{held_busy, held_pound}
use Rattle.pieces_turns.proofs.Told.{sane}
use Rattle.pieces_calls.proofs.calls.read_end.Goals as goal

pub returns-then-not-in_bounds : goal.returns-then-not-in_bounds
unfolding end_of
returns-then-not-in_bounds c =
    reply_no c.args.text.now (is_in_bounds (state_of c.args.m c.args.buf.now)) _ _
    (sym (c.in_bounds.ensures c.args.buf.now) ∙ not-true _ c.if-not-in_bounds.true-raw) (rw c.refuse.ensures (refl, refl))

pub returns-then-text-lt-LONGEST : goal.returns-then-text-lt-LONGEST
unfolding end_of
returns-then-text-lt-LONGEST c =
    reply_yes c.args.text.now (is_in_bounds (state_of c.args.m c.args.buf.now)) _ _
    (sym (c.in_bounds.ensures c.args.buf.now) ∙ not-false _ c.if-not-in_bounds.false-raw)
    (reply_yes c.args.text.now
    (ltb (length c.args.text.now) longest) _ _ (lt-ltb _ _ c.if-text-lt-LONGEST.true) (rw c.refuse-then-text-lt-LONGEST.ensures (refl, refl)))

pub end_item-requires : goal.end_item-requires
end_item-requires c = (
  subst (λ (x : Marks). HoldsItem x c.args.buf.now c.args.text.now (0))
      (sym c.declare-in-Pound.ensures) (held_declared _ _ _ _ (held_pound (state_of c.args.m c.args.buf.now)
      c.args.text.now c.requires c.if-text-lt-LONGEST.false (sane (state_of c.args.m c.args.buf.now)
      (sym (c.in_bounds.ensures c.args.buf.now) ∙ not-false _ c.if-not-in_bounds.false-raw)
      (ap reads_on c.in-Pound.is)) c.in-Pound.is)),
  refl,
)

pub end_item-requires-in-Busy : goal.end_item-requires-in-Busy
end_item-requires-in-Busy c =
    let h = held_busy (state_of c.args.m c.args.buf.now)
    c.args.text.now c.requires c.if-text-lt-LONGEST.false (sane (state_of c.args.m c.args.buf.now)
    (sym (c.in_bounds.ensures c.args.buf.now)
    ∙ not-false _ c.if-not-in_bounds.false-raw) (ap reads_on c.in-Busy.is)) _ _ c.in-Busy.is in (
      subst (λ (x : Marks). HoldsItem x c.args.buf.now c.args.text.now c.in-Busy.start)
          (sym c.declare-in-Busy.ensures) (held_declared _ _ _ _ h.0),
      rw c.declare-in-Busy.ensures h.1,
    )

pub give_waiting-requires : goal.give_waiting-requires
give_waiting-requires c =
    let h = held_waiting (state_of c.args.m c.args.buf.now)
    c.args.text.now (sym (c.in_bounds.ensures c.args.buf.now)
    ∙ not-false _ c.if-not-in_bounds.false-raw) c.requires c.if-text-lt-LONGEST.false _ _ c.in-Waiting.is in (
      subst (λ (x : Marks). HoldsItem x c.args.buf.now c.args.text.now c.in-Waiting.start)
          (sym c.declare-in-Waiting.ensures) (held_declared _ _ _ _ h.0),
      rw c.declare-in-Waiting.ensures h.1,
    )

pub returns-in-Opening : goal.returns-in-Opening
unfolding end_of
returns-in-Opening c =
    reply_yes c.args.text.now (is_in_bounds (state_of c.args.m c.args.buf.now)) _ _
    (sym (c.in_bounds.ensures c.args.buf.now) ∙ not-false _ c.if-not-in_bounds.false-raw)
    (reply_no c.args.text.now (ltb (length c.args.text.now) longest) _ _
    (le-ltb _ _ c.if-text-lt-LONGEST.false) (end_stage_lem (state_of c.args.m c.args.buf.now) c.args.text.now
    c.args.m.stage _ c.in-Opening.is (let g = rw c.declare.ensures at c.end_idle.ensures in (
      g c.args.buf.now c.args.text.now,
      idle_quiet (declared (state_of c.args.m c.args.buf.now)) c.args.text.now,
    ))))

pub returns-in-Pound : goal.returns-in-Pound
unfolding end_of
returns-in-Pound c =
    reply_yes c.args.text.now (is_in_bounds (state_of c.args.m c.args.buf.now)) _ _
    (sym (c.in_bounds.ensures c.args.buf.now) ∙ not-false _ c.if-not-in_bounds.false-raw)
    (reply_no c.args.text.now (ltb (length c.args.text.now) longest) _ _ (le-ltb _ _ c.if-text-lt-LONGEST.false)
    (end_stage_lem (state_of c.args.m c.args.buf.now) c.args.text.now c.args.m.stage _
    c.in-Pound.is (rw c.declare-in-Pound.ensures at c.end_item.ensures)))

pub returns-in-FirstLine : goal.returns-in-FirstLine
unfolding end_of
returns-in-FirstLine c =
    reply_yes c.args.text.now (is_in_bounds (state_of c.args.m c.args.buf.now)) _ _
    (sym (c.in_bounds.ensures c.args.buf.now) ∙ not-false _ c.if-not-in_bounds.false-raw)
    (reply_no c.args.text.now (ltb (length c.args.text.now) longest) _ _
    (le-ltb _ _ c.if-text-lt-LONGEST.false) (end_stage_lem (state_of c.args.m c.args.buf.now) c.args.text.now
    c.args.m.stage _ c.in-FirstLine.is (let g = rw c.declare-in-FirstLine.ensures at c.end_idle-in-FirstLine.ensures in (
      g c.args.buf.now c.args.text.now,
      idle_quiet (declared (state_of c.args.m c.args.buf.now)) c.args.text.now,
    ))))

pub returns-in-Idle : goal.returns-in-Idle
unfolding end_of
returns-in-Idle c =
    reply_yes c.args.text.now (is_in_bounds (state_of c.args.m c.args.buf.now)) _ _
    (sym (c.in_bounds.ensures c.args.buf.now) ∙ not-false _ c.if-not-in_bounds.false-raw)
    (reply_no c.args.text.now (ltb (length c.args.text.now) longest) _ _
    (le-ltb _ _ c.if-text-lt-LONGEST.false) (end_stage_lem (state_of c.args.m c.args.buf.now) c.args.text.now
    c.args.m.stage _ c.in-Idle.is (let g = rw c.declare-in-Idle.ensures at c.end_idle-in-Idle.ensures in (
      g c.args.buf.now c.args.text.now,
      idle_quiet (declared (state_of c.args.m c.args.buf.now)) c.args.text.now,
    ))))

pub returns-in-Busy : goal.returns-in-Busy
unfolding end_of
returns-in-Busy c =
    reply_yes c.args.text.now (is_in_bounds (state_of c.args.m c.args.buf.now)) _ _
    (sym (c.in_bounds.ensures c.args.buf.now) ∙ not-false _
    c.if-not-in_bounds.false-raw) (reply_no c.args.text.now (ltb (length c.args.text.now) longest) _ _
    (le-ltb _ _ c.if-text-lt-LONGEST.false) (end_stage_lem (state_of c.args.m c.args.buf.now) c.args.text.now
    c.args.m.stage _ c.in-Busy.is (rw c.declare-in-Busy.ensures at c.end_item-in-Busy.ensures)))

pub returns-in-Waiting : goal.returns-in-Waiting
unfolding end_of
returns-in-Waiting c =
    reply_yes c.args.text.now (is_in_bounds (state_of c.args.m c.args.buf.now)) _ _
    (sym (c.in_bounds.ensures c.args.buf.now) ∙ not-false _
    c.if-not-in_bounds.false-raw) (reply_no c.args.text.now (ltb (length c.args.text.now) longest) _ _
    (le-ltb _ _ c.if-text-lt-LONGEST.false) (end_stage_lem (state_of c.args.m c.args.buf.now) c.args.text.now
    c.args.m.stage _ c.in-Waiting.is (rw c.declare-in-Waiting.ensures at c.give_waiting.ensures)))

pub returns-in-Stopped : goal.returns-in-Stopped
unfolding end_of
returns-in-Stopped c =
    reply_yes c.args.text.now (is_in_bounds (state_of c.args.m c.args.buf.now)) _ _
    (sym (c.in_bounds.ensures c.args.buf.now) ∙ not-false _ c.if-not-in_bounds.false-raw)
    (reply_no c.args.text.now (ltb (length c.args.text.now) longest) _ _
    (le-ltb _ _ c.if-text-lt-LONGEST.false) (end_stage_lem (state_of c.args.m c.args.buf.now)
    c.args.text.now c.args.m.stage _ c.in-Stopped.is (rw c.refuse-in-Stopped.ensures (refl, refl))))
