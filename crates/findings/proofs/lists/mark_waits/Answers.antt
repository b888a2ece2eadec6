-- The parts are what they are called.
use mathlib.Core.Path.{◌∙◌}
use Rattle.findings.specs.Lists.{mark_waits}
use Rattle.findings.proofs.lists.mark_waits.Goals as goal

pub returns : goal.returns
unfolding mark_waits
returns c = c.at_row.ensures ∙ rw (c.last_passing.ensures, c.depth_at.ensures)
