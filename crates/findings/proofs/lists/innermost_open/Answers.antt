-- The parts are what they are called.
use mathlib.Core.Path.{◌∙◌}
use Rattle.findings.proofs.lists.innermost_open.Goals as goal

pub returns : goal.returns
returns c = c.at_row.ensures ∙ rw (c.opener_of.ensures, c.depth_at-depth.ensures)
