-- Past the end there is nothing, and only the empty text is that; in the text its part from the place on is its rest.
use Rattle.laws.proofs.Compared.{same_past}
use Rattle.laws.proofs.Lent.{part_rest}
use mathlib.Core.Path.{◌∙◌}
use Rattle.byte_runs.proofs.equal_from.Goals as goal

pub returns-then-t-from : goal.returns-then-t-from
returns-then-t-from c = same_past _ _ _ c.if-t-from.true

pub returns : goal.returns
returns c = c.equal.ensures ∙ rw (part_rest _ _)
