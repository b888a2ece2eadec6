-- One arm for each class, as in `wrong`.
use Rattle.nested.proofs.refusals.wrong_at.Goals as goal

pub returns-in-Drops : goal.returns-in-Drops
returns-in-Drops c = rw c.in-Drops.is c.deep_at.ensures

pub returns-in-Marks : goal.returns-in-Marks
returns-in-Marks c = rw c.in-Marks.is c.starting_at.ensures

pub returns-in-Opens : goal.returns-in-Opens
returns-in-Opens c = rw c.in-Opens.is c.starting_at-in-Opens.ensures

pub returns-in-Closes : goal.returns-in-Closes
returns-in-Closes c = rw c.in-Closes.is c.closing_at.ensures
