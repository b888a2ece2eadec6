-- The mode decides which range is set.
use Rattle.steps.proofs.quotes.failing_at.Goals as goal

pub returns-then-report : goal.returns-then-report
returns-then-report c = rw c.if-report.true (simp (c.broken.ensures, c.past_failing.ensures))

pub returns : goal.returns
returns c = rw c.if-report.false (simp c.broken-2.ensures)
