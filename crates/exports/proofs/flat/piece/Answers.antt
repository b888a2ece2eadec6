-- 22 and 27 leave all but the values; else the call of `pieces_lent` fixes the state and the text memory, and `tell` the rest.
use native.Mathlib.Omega.{arith}
use mathlib.Core.Path.{refl, sym, ap, ◌∙◌}
use borrow.Author.Tests.{not-true, not-false}
use lib.ListN.{length}
use Rattle.pieces_lent.specs.Calls.{lent, piece_for}
use Rattle.exports.specs.Piece.{words_in, memory, gives}
use Rattle.exports.proofs.Left.{room_record, state_words_lem, too_few, no_state, served}
use Rattle.exports.proofs.Spotted.{later_none}
use Rattle.laws.proofs.Choice.{no_yes}
use Rattle.exports.proofs.flat.piece.Goals as goal

pub returns-then-not-is_room : goal.returns-then-not-is_room
returns-then-not-is_room c = too_few _ _ (sym c.is_room.ensures ∙ not-true _ c.if-not-is_room.true-raw) c.put_values.ensures

pub returns-then-not-is_state : goal.returns-then-not-is_state
returns-then-not-is_state c = no_state _ _ (sym c.is_room.ensures ∙ not-false _
    c.if-not-is_room.false-raw)
    (sym c.is_state.ensures ∙ not-true _ c.if-not-is_state.true-raw) c.put_values-then-not-is_state.ensures

pub words_in-state-requires : goal.words_in-state-requires
words_in-state-requires c = state_words_lem (length c.args.buf.now) _ (sym c.is_state.ensures ∙ not-false _ c.if-not-is_state.false-raw)

pub read_on-requires : goal.read_on-requires
read_on-requires c =
    let h = c.is_served.ensures c.if-is_served.true in (
      state_words_lem (length c.args.buf.now) _ (sym c.is_state.ensures ∙ not-false _ c.if-not-is_state.false-raw),
      room_record _ (length c.args.values.now) (sym c.is_room.ensures ∙ not-false _ c.if-not-is_room.false-raw),
      c.words_in-state.ensures,
      h.0,
      h.1,
      h.2,
    )

pub returns-then-is_served : goal.returns-then-is_served
returns-then-is_served c =
    served _ _ (sym c.is_room.ensures ∙ not-false _ c.if-not-is_room.false-raw)
    (sym c.is_state.ensures ∙ not-false _ c.if-not-is_state.false-raw)
    c.words_in-state.ensures c.read_on.ensures

pub read_plainly-requires : goal.read_plainly-requires
read_plainly-requires c = (
  state_words_lem (length c.args.buf.now) _ (sym c.is_state.ensures ∙ not-false _ c.if-not-is_state.false-raw),
  room_record _ (length c.args.values.now) (sym c.is_room.ensures ∙ not-false _ c.if-not-is_room.false-raw),
  omega arith,
  no_yes,
)

pub returns : goal.returns
returns c =
    let a = c.args in
    served _ _ (sym c.is_room.ensures ∙ not-false _ c.if-not-is_room.false-raw)
    (sym c.is_state.ensures ∙ not-false _ c.if-not-is_state.false-raw) refl
    (c.read_plainly.ensures ∙ ap (gives (memory a.buf.now a.words.now a.text.now a.item.now a.values.now))
    (later_none (piece_for (lent (words_in a.words.now) a.buf.now) a.piece.now (length a.text.now))))
