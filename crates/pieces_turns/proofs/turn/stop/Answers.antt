-- It is what it says.
use Rattle.pieces_turns.proofs.turn.stop.Goals as goal

pub returns : goal.returns
returns c = simp c.marks_at.ensures
