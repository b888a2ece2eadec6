-- A close fits where it is the closer of what is open.
use Rattle.nested.proofs.refusals.fits_close.Goals as goal

pub returns : goal.returns
returns c = rw c.closer_of.ensures at c.allowed.ensures
