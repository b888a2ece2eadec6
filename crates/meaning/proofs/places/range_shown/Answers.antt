-- As `range_after`, from no range in report mode.
use Rattle.meaning.proofs.places.range_shown.Goals as goal

pub returns-then-report : goal.returns-then-report
returns-then-report c = rw c.if-report.true c.range_after.ensures

pub returns : goal.returns
returns c = rw c.if-report.false c.range_after-2.ensures
