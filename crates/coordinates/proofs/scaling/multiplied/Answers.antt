-- Digits past 2^53 weigh nothing. Else both operands are exact, so the product is the exact product rounded once.
use Rattle.coordinates.proofs.Floats.{up_in, up_out}
use Rattle.coordinates.proofs.Totals.{weighed_in, weighed_out}
use Rattle.coordinates.proofs.scaling.multiplied.Goals as goal

pub returns-then-m-gt-MOST_EXACT : goal.returns-then-m-gt-MOST_EXACT
returns-then-m-gt-MOST_EXACT c = weighed_out _ _ _ c.if-m-gt-MOST_EXACT.true

pub returns-then-k-gt-MOST_SCALE : goal.returns-then-k-gt-MOST_SCALE
returns-then-k-gt-MOST_SCALE c = weighed_in _ _ _ c.if-m-gt-MOST_EXACT.false _ (up_out _ _ _ c.if-k-gt-MOST_SCALE.true)

pub returns : goal.returns
returns c =
    rw (c.float.ensures, c.power.ensures)
    (weighed_in _ _ _ c.if-m-gt-MOST_EXACT.false _
    (up_in _ _ _ c.if-m-gt-MOST_EXACT.false c.if-k-gt-MOST_SCALE.false))
