-- One arm for each kind of quotes.
use Rattle.steps.proofs.quotes.closed.Goals as goal

pub returns-in-Double : goal.returns-in-Double
returns-in-Double c = rw c.in-Double.is

pub returns-in-Lines : goal.returns-in-Lines
returns-in-Lines c = rw c.in-Lines.is (simp c.lined_of.ensures)
