-- By the number of words.
use Rattle.lines_calls.proofs.Words.{opens, opens_not}
use Rattle.lines_calls.proofs.lent.open.Goals as goal

pub put_state-requires : goal.put_state-requires
put_state-requires c = c.if-words-eq-LINE_STATE_WORDS.true

pub returns-then-words-eq-LINE_STATE_WORDS : goal.returns-then-words-eq-LINE_STATE_WORDS
returns-then-words-eq-LINE_STATE_WORDS c = let a = c.args in
    opens a.words.now a.index.now c.if-words-eq-LINE_STATE_WORDS.true
    c.open-t.ensures c.put_state.ensures

pub returns-else-words-eq-LINE_STATE_WORDS : goal.returns-else-words-eq-LINE_STATE_WORDS
returns-else-words-eq-LINE_STATE_WORDS c = opens_not c.args.words.now c.args.index.now c.if-words-eq-LINE_STATE_WORDS.false
