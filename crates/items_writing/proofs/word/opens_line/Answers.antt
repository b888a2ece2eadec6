-- The second test counts only where the first holds.
use Rattle.items_writing.proofs.word.opens_line.Goals as goal

pub returns-then-first : goal.returns-then-first
returns-then-first c = rw c.if-first.true c.begins_with.ensures
