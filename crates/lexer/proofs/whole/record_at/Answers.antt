-- The nine words are those of `nine_of`; the depth stands beside them.
use Rattle.lexer.proofs.whole.record_at.Goals as goal

pub returns : goal.returns
returns c = rw c.nine_of.ensures
