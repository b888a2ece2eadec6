-- An arm for each class of `in_nest`.
use borrow.Author.Tests.{ne_eqb}
use Rattle.items.specs.Classes.{in_nest}
use Rattle.steps.proofs.comments.read_nestable_comment.Goals as goal

pub returns-in-124 : goal.returns-in-124
unfolding in_nest
returns-in-124 c = rw c.in-124.is

pub returns-in-35 : goal.returns-in-35
unfolding in_nest
returns-in-35 c = rw c.in-35.is

pub returns-in_default : goal.returns-in_default
unfolding in_nest
returns-in_default c = simp (ne_eqb _ _ c.in_default.in_default-own.rest.0.1, ne_eqb _ _ c.in_default.in_default-own.rest.1)
