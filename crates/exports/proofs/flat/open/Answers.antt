-- With other counts of bytes and words nothing is called; else the state that was opened is written.
use mathlib.Core.Path.{sym, ◌∙◌}
use mathlib.Core.List.{[]}
use borrow.Author.Tests.{not-true, not-false}
use lib.ListN.{length}
use Rattle.exports.proofs.Left.{state_words_lem, not_opened, opened_so}
use Rattle.exports.proofs.flat.open.Goals as goal

pub returns-then-not-is_state : goal.returns-then-not-is_state
returns-then-not-is_state c = not_opened _ _ _ _ (sym c.is_state.ensures ∙ not-true _ c.if-not-is_state.true-raw)

pub put_words-requires : goal.put_words-requires
put_words-requires c =
    state_words_lem
    (length c.args.buf.now) _ (sym c.is_state.ensures ∙ not-false _ c.if-not-is_state.false-raw)

pub returns : goal.returns
returns c =
    opened_so _ _ _ _ c.open_words-told.result (sym c.is_state.ensures ∙ not-false _
    c.if-not-is_state.false-raw) c.open_words-told.ensures (c.start_number.ensures []) c.put_words.ensures
