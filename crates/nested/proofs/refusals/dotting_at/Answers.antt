-- One arm for each frame, as in `dotting`.
use Rattle.nested.proofs.refusals.dotting_at.Goals as goal

pub returns-in-Holds : goal.returns-in-Holds
returns-in-Holds c = rw c.in-Holds.is c.first_dot.ensures
