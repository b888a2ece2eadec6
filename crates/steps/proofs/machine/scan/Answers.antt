-- An item that is at its end is what it is (Kept); any other is scanned.
use Rattle.steps.proofs.Kept.{done_scan}
use Rattle.steps.proofs.machine.scan.Goals as goal

pub returns-in-Done : goal.returns-in-Done
returns-in-Done c = rw c.in-Done.is (done_scan _ _ _ _)

pub returns-in_default : goal.returns-in_default
returns-in_default c = c.scan_on.ensures
