-- A comment has no detail, or it is none of the layout's; the one test is that of `class_of`.
use borrow.Author.Tests.{eq-eqb, ne_eqb}
use Rattle.nested.specs.Items.{class_of, has_detail, sort_of}
use Rattle.nested.proofs.classes.comment_class.Goals as goal

pub returns-then-d-eq-NO_DETAIL : goal.returns-then-d-eq-NO_DETAIL
unfolding class_of has_detail sort_of
returns-then-d-eq-NO_DETAIL c = simp (eq-eqb _ _ c.if-d-eq-NO_DETAIL.true)

pub returns : goal.returns
unfolding class_of has_detail sort_of
returns c = simp (ne_eqb _ _ c.if-d-eq-NO_DETAIL.false)
