-- An arm for each class of `in_nest`; at `#` the depth decides.
use borrow.Author.Tests.{le-leb, lt-leb, ne_eqb}
use Rattle.items.specs.Classes.{in_nest}
use Rattle.steps.proofs.comments.nest_bar.Goals as goal

pub returns-then-depth-le1 : goal.returns-then-depth-le1
unfolding in_nest
returns-then-depth-le1 c = rw c.in-35.is (simp (le-leb _ _ c.if-depth-le1.true, c.comment_ends.ensures))

pub returns-in-124 : goal.returns-in-124
unfolding in_nest
returns-in-124 c = rw c.in-124.is

pub returns-else-depth-le1 : goal.returns-else-depth-le1
unfolding in_nest
returns-else-depth-le1 c = rw c.in-35.is (simp (lt-leb _ _ c.if-depth-le1.false))

pub returns-in_default : goal.returns-in_default
unfolding in_nest
returns-in_default c = simp (ne_eqb _ _ c.in_default.in_default-own.rest.0.1, ne_eqb _ _ c.in_default.in_default-own.rest.1)
