-- A fresh state's stage is the first, and all its other numbers but the mode are 0.
use Rattle.pieces_lent.specs.Coding.{coded}
use Rattle.pieces_lent.proofs.encoding.fresh_words.Goals as goal

pub returns : goal.returns
unfolding coded
returns c = simp c.bit.ensures
