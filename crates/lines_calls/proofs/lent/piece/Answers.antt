-- The words are read, the piece is fed to the state that they stand for, and its next state is stored over them.
use mathlib.Core.Path.{sym, ◌∙◌}
use Rattle.lines_calls.proofs.Words.{state_is, feeds, feeds_not}
use Rattle.lines_calls.proofs.lent.piece.Goals as goal

pub state_in-requires : goal.state_in-requires
state_in-requires c = sym c.is_state.ensures ∙ c.if-is_state.true

pub put_state-requires : goal.put_state-requires
put_state-requires c =
    (state_is c.args.words.now (sym c.is_state.ensures ∙ c.if-is_state.true)).0

pub returns-then-is_state : goal.returns-then-is_state
returns-then-is_state c =
    let a = c.args in
    feeds a.words.now a.index.now
    a.bytes.now (sym c.is_state.ensures ∙ c.if-is_state.true)
    (rw c.state_in.ensures at c.piece-t.ensures) c.put_state.ensures

pub returns-else-is_state : goal.returns-else-is_state
returns-else-is_state c = let a = c.args in feeds_not a.words.now a.index.now a.bytes.now (sym c.is_state.ensures ∙ c.if-is_state.false)
