-- One arm for each frame, as in `held_of`.
use Rattle.nested.proofs.frames.held.Goals as goal

pub returns-in-Plan : goal.returns-in-Plan
returns-in-Plan c = rw c.in-Plan.is

pub returns-in-Quoting : goal.returns-in-Quoting
returns-in-Quoting c = rw c.in-Quoting.is

pub returns-in-Dropping : goal.returns-in-Dropping
returns-in-Dropping c = rw c.in-Dropping.is

pub returns-in-Fresh : goal.returns-in-Fresh
returns-in-Fresh c = rw c.in-Fresh.is

pub returns-in-Holds : goal.returns-in-Holds
returns-in-Holds c = rw c.in-Holds.is

pub returns-in-Dotted : goal.returns-in-Dotted
returns-in-Dotted c = rw c.in-Dotted.is

pub returns-in-Tailed : goal.returns-in-Tailed
returns-in-Tailed c = rw c.in-Tailed.is
