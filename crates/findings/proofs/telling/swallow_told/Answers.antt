-- The test is the definition's.
use mathlib.Core.Path.{◌∙◌}
use Rattle.findings.specs.Told.{swallow_told}
use Rattle.findings.proofs.telling.swallow_told.Goals as goal

pub returns-then-left : goal.returns-then-left
unfolding swallow_told
returns-then-left c = rw (c.if-left.true, c.bytes_on-then-left.ensures, c.bytes_on.ensures)

pub returns : goal.returns
unfolding swallow_told
returns c = c.warn.ensures ∙ rw (c.if-left.false, c.bytes_on-2.ensures)
