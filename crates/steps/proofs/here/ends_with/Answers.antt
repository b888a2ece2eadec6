-- A body ends with a line if it is no shorter and its last bytes are the line's.
use mathlib.Core.Path.{sym}
use Rattle.steps.proofs.Delimiter.{ends_short, ends_on}
use Rattle.steps.proofs.here.ends_with.Goals as goal

pub returns-then-body-n : goal.returns-then-body-n
returns-then-body-n c = sym (ends_short _ _ _ c.requires c.if-body-n.true)

pub returns : goal.returns
returns c = ends_on _ _ _ c.requires c.if-body-n.false c.begins_with_line.ensures
