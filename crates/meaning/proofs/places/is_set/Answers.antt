-- The mode decides which range counts as set.
use Rattle.meaning.proofs.places.is_set.Goals as goal

pub returns-then-report : goal.returns-then-report
returns-then-report c = rw c.if-report.true

pub returns : goal.returns
returns c = rw c.if-report.false
