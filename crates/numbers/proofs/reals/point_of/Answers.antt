-- Each arm is a clause of `point_of`.
use Rattle.numbers.proofs.Decimals.{point_empty, point_marked, point_bad}
use Rattle.numbers.proofs.reals.point_of.Goals as goal

pub returns-in-Empty : goal.returns-in-Empty
returns-in-Empty c = point_empty _ _ _ _ c.in-Empty.is

pub returns-in-Marked : goal.returns-in-Marked
returns-in-Marked c = point_marked _ _ _ _ _ c.in-Marked.is

pub returns-in-Bad : goal.returns-in-Bad
returns-in-Bad c = point_bad _ _ _ _ c.in-Bad.is
