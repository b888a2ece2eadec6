-- An arm for each case.
use Rattle.pieces_giving.proofs.Steps.{beyond_fits}
use Rattle.pieces_giving.proofs.ends.beyond.Goals as goal

pub begin-requires : goal.begin-requires
begin-requires c =
    (c.requires.0, beyond_fits _ _ _ c.in-Some.is c.requires.1)

pub returns-in-None : goal.returns-in-None
returns-in-None c = rw c.in-None.is (simp c.marks_at.ensures)

pub returns-in-Some : goal.returns-in-Some
returns-in-Some c = rw c.in-Some.is c.begin.ensures
