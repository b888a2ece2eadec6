-- Only with an exponent and a digit before it is there a decimal.
use Rattle.numbers.proofs.Decimals.{undotted_empty, undotted_bad, undotted_none, undotted_some}
use Rattle.numbers.proofs.reals.undotted.Goals as goal

pub returns-in-Empty : goal.returns-in-Empty
returns-in-Empty c = undotted_empty _ _ _ _ c.in-Empty.is

pub returns-then-start-end : goal.returns-then-start-end
returns-then-start-end c = undotted_none _ _ _ _ _ c.in-Marked.is c.if-start-end.true

pub returns-else-start-end : goal.returns-else-start-end
returns-else-start-end c =
    undotted_some _ _ _ _ _ c.in-Marked.is _ c.if-start-end.false c.requires
    c.point_of.ensures

pub returns-in-Bad : goal.returns-in-Bad
returns-in-Bad c = undotted_bad _ _ _ _ c.in-Bad.is
