-- The exponent less the count of fraction digits is told by its sign and its size.
use Rattle.coordinates.specs.Inner.{weighed}
use Rattle.coordinates.proofs.Scales.{less_down, less_below, less_above}
use Rattle.std.proofs.Common.{sym, ap, ◌∙◌}
use Rattle.coordinates.proofs.scaling.shifted.Goals as goal

pub returns-then-down : goal.returns-then-down
returns-then-down c = c.divided.ensures ∙ rw c.if-down.true (ap (weighed _ _) (sym (less_down _ _)))

pub returns-then-e-f : goal.returns-then-e-f
returns-then-e-f c = c.divided-then-e-f.ensures ∙ rw c.if-down.false (ap (weighed _ _) (sym (less_below _ _ c.if-e-f.true)))

pub returns : goal.returns
returns c = c.multiplied.ensures ∙ rw c.if-down.false (ap (weighed _ _) (sym (less_above _ _ c.if-e-f.false)))
