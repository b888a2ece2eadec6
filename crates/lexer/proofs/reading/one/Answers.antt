-- The record is the one of the meaning, at the place that the last range gives.
use Rattle.lexer.proofs.reading.one.Goals as goal

pub returns : goal.returns
returns c = rw (c.nine_of.ensures, c.place.ensures)
