-- One arm for each frame, as in `closing`.
use Rattle.nested.proofs.refusals.closing_at.Goals as goal

pub returns-in-Fresh : goal.returns-in-Fresh
returns-in-Fresh c = rw c.in-Fresh.is c.fits_close.ensures

pub returns-in-Holds : goal.returns-in-Holds
returns-in-Holds c = rw c.in-Holds.is c.fits_close-in-Holds.ensures

pub returns-in-Tailed : goal.returns-in-Tailed
returns-in-Tailed c = rw c.in-Tailed.is c.fits_close-in-Tailed.ensures
