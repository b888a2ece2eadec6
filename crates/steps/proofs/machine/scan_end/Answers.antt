-- The item is the part that `finish` is asked of.
use Rattle.steps.proofs.machine.scan_end.Goals as goal

pub returns : goal.returns
returns c = simp c.finish.ensures
