-- 22 and 27 leave all but the values; else the state is told by its words, or goes the plain way.
use mathlib.Core.Path.{refl, sym, ◌∙◌}
use borrow.Author.Tests.{not-true, not-false}
use lib.ListN.{length}
use Rattle.exports.proofs.Left.{room_record, state_words_lem, too_few, no_state, served}
use Rattle.exports.proofs.flat.end.Goals as goal

pub returns-then-not-is_room : goal.returns-then-not-is_room
returns-then-not-is_room c = too_few _ _ (sym c.is_room.ensures ∙ not-true _ c.if-not-is_room.true-raw) c.put_values.ensures

pub returns-then-not-is_state : goal.returns-then-not-is_state
returns-then-not-is_state c =
    no_state _ _ (sym c.is_room.ensures ∙ not-false _ c.if-not-is_room.false-raw)
    (sym c.is_state.ensures ∙ not-true _ c.if-not-is_state.true-raw) c.put_values-then-not-is_state.ensures

pub words_in-state-requires : goal.words_in-state-requires
words_in-state-requires c = state_words_lem (length c.args.buf.now) _ (sym c.is_state.ensures ∙ not-false _ c.if-not-is_state.false-raw)

pub end_on-requires : goal.end_on-requires
end_on-requires c =
    let h = c.is_closing.ensures c.if-is_closing.true in (
      state_words_lem (length c.args.buf.now) _ (sym c.is_state.ensures ∙ not-false _ c.if-not-is_state.false-raw),
      room_record _ (length c.args.values.now) (sym c.is_room.ensures ∙ not-false _ c.if-not-is_room.false-raw),
      c.words_in-state.ensures,
      h.0,
      h.1,
      h.2,
    )

pub returns-then-is_closing : goal.returns-then-is_closing
returns-then-is_closing c =
    served _ _ (sym c.is_room.ensures ∙ not-false _ c.if-not-is_room.false-raw)
    (sym c.is_state.ensures ∙ not-false _ c.if-not-is_state.false-raw) c.words_in-state.ensures c.end_on.ensures

pub end_plainly-requires : goal.end_plainly-requires
end_plainly-requires c = (
  state_words_lem (length c.args.buf.now) _ (sym c.is_state.ensures ∙ not-false _ c.if-not-is_state.false-raw),
  room_record _ (length c.args.values.now) (sym c.is_room.ensures ∙ not-false _ c.if-not-is_room.false-raw),
)

pub returns : goal.returns
returns c =
    served _ _ (sym c.is_room.ensures ∙ not-false _ c.if-not-is_room.false-raw)
    (sym c.is_state.ensures ∙ not-false _ c.if-not-is_state.false-raw) refl c.end_plainly.ensures
