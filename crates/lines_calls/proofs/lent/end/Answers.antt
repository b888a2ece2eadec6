-- By whether the words are a state's.
use mathlib.Core.Path.{sym, ◌∙◌}
use lib.ListN.{length}
use Rattle.lines_calls.proofs.Words.{ends, ends_not}
use Rattle.lines_calls.proofs.lent.end.Goals as goal

pub state_in-requires : goal.state_in-requires
state_in-requires c = sym c.is_state.ensures ∙ c.if-is_state.true

pub returns-then-is_state : goal.returns-then-is_state
returns-then-is_state c = let a = c.args in ends a.words.now (length a.index.now)
    (sym c.is_state.ensures ∙ c.if-is_state.true) (rw c.state_in.ensures at c.end.ensures)

pub returns : goal.returns
returns c = let a = c.args in ends_not a.words.now (length a.index.now) (sym c.is_state.ensures ∙ c.if-is_state.false)
