-- Without a digit on either side of the dot there is no decimal; else the suffix decides.
use Rattle.numbers.proofs.Decimals.{dotted_none, dotted_fraction, dotted_whole}
use Rattle.numbers.proofs.reals.dotted.Goals as goal

pub returns-then-from-stop : goal.returns-then-from-stop
returns-then-from-stop c =
    dotted_none _ _ _ _ _ _ c.requires c.decimal_end-stop.ensures c.if-start-end.true c.if-from-stop.true

pub returns-then-start-end : goal.returns-then-start-end
returns-then-start-end c =
    dotted_fraction _ _ _ _ _ _ c.requires c.decimal_end-stop.ensures _ _
    c.suffix_at.ensures c.point_of.ensures c.if-from-stop.false

pub returns : goal.returns
returns c =
    dotted_whole _ _ _ _ _ _ c.requires c.decimal_end-stop.ensures _ _
    c.suffix_at-2.ensures c.point_of-2.ensures c.if-start-end.false
