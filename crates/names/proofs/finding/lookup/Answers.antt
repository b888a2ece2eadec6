-- The number follows from what the index says, and so does the free slot.
use mathlib.Core.Path.{ap, ◌∙◌}
use Rattle.names.specs.Call.{free_of}
use Rattle.names.proofs.finding.lookup.Goals as goal

pub returns : goal.returns
returns c = (c.number_by-number.ensures, c.free_of-free.ensures ∙ ap free_of c.probe-x.ensures)
