-- An arm for the end and one for a character.
use Rattle.pieces_lent.proofs.encoding.beyond_row.Goals as goal

pub returns-in-None : goal.returns-in-None
returns-in-None c = rw c.in-None.is c.row.ensures

pub returns-in-Some : goal.returns-in-Some
returns-in-Some c = rw c.in-Some.is c.row-in-Some.ensures
