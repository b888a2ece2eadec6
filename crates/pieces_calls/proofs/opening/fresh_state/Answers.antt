-- It is what it says.
use Rattle.pieces_calls.proofs.opening.fresh_state.Goals as goal

pub returns : goal.returns
returns c = simp c.no_part.ensures
