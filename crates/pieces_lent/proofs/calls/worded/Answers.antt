-- The marks of the answer, as words.
use Rattle.pieces_lent.proofs.calls.worded.Goals as goal

pub returns : goal.returns
returns c = simp c.encode.ensures
