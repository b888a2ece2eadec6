-- The parts are what they are called.
use Rattle.findings.proofs.telling.error_of.Goals as goal

pub returns : goal.returns
returns c = rw c.error_end-end.ensures
