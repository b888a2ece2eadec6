-- It is what it says.
use Rattle.pieces_lent.proofs.opening.fresh_state.Goals as goal

pub returns : goal.returns
returns c = simp c.fresh_words.ensures
