-- In plain mode an item finds the last range since the start of the text, as the one after it does.
use Rattle.lexer.proofs.reading.shown.Goals as goal

pub returns-then-p : goal.returns-then-p
returns-then-p c = rw c.if-p.true c.range_shown.ensures

pub returns : goal.returns
returns c = rw c.if-p.false (rw c.if-p.false at c.requires.last_value)
