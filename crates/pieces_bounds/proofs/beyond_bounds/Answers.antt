-- An arm for each case.
use Rattle.pieces_bounds.proofs.beyond_bounds.Goals as goal

pub returns-in-None : goal.returns-in-None
returns-in-None c = rw c.in-None.is

pub returns-in-Some : goal.returns-in-Some
returns-in-Some c = rw c.in-Some.is (simp c.char_bounds.ensures)
