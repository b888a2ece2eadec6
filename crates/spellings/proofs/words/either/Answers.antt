-- The second row is tried where the first is not it.
use Rattle.spellings.proofs.words.either.Goals as goal

pub returns : goal.returns
returns c = rw c.only.ensures at c.row.ensures
