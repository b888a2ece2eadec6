-- A closing bracket has one of the three details, or it is none of the layout's; the one test is that of `class_of`.
use mathlib.Core.Path.{sym, ◌∙◌}
use Rattle.nested.specs.Items.{class_of, sort_of}
use Rattle.nested.proofs.classes.close_class.Goals as goal

pub returns-then-has_detail : goal.returns-then-has_detail
unfolding class_of sort_of
returns-then-has_detail c = simp (sym c.has_detail.ensures ∙ c.if-has_detail.true)

pub returns : goal.returns
unfolding class_of sort_of
returns c = simp (sym c.has_detail.ensures ∙ c.if-has_detail.false)
