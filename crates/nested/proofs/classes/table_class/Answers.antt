-- A kind of the layout is judged by its detail, an error by its number; the tests are those of `class_of`.
use borrow.Author.Tests.{lt-ltb, le-ltb, le-leb, lt-leb}
use mathlib.Core.Path.{sym, ◌∙◌}
use Rattle.nested.specs.Items.{class_of}
use Rattle.nested.proofs.classes.table_class.Goals as goal

pub returns-then-has_detail : goal.returns-then-has_detail
unfolding class_of
returns-then-has_detail c = simp (le-leb _ _ c.if-k-le-DOT.true, (sym c.has_detail.ensures ∙ c.if-has_detail.true)) c.sort.ensures

pub returns-then-k-le-DOT : goal.returns-then-k-le-DOT
unfolding class_of
returns-then-k-le-DOT c = simp (le-leb _ _ c.if-k-le-DOT.true, (sym c.has_detail.ensures ∙ c.if-has_detail.false))

pub returns-then-k-le-LAST_ERROR_KIND : goal.returns-then-k-le-LAST_ERROR_KIND
unfolding class_of
returns-then-k-le-LAST_ERROR_KIND c = simp (lt-leb _ _ c.if-k-le-DOT.false, lt-ltb _ _ c.if-k-gt-FIRST_ERROR.true, le-leb _ _ c.if-k-le-LAST_ERROR_KIND.true)

pub returns-then-k-gt-FIRST_ERROR : goal.returns-then-k-gt-FIRST_ERROR
unfolding class_of
returns-then-k-gt-FIRST_ERROR c = simp (lt-leb _ _ c.if-k-le-DOT.false, lt-ltb _ _ c.if-k-gt-FIRST_ERROR.true, lt-leb _ _ c.if-k-le-LAST_ERROR_KIND.false)

pub returns : goal.returns
unfolding class_of
returns c = simp (lt-leb _ _ c.if-k-le-DOT.false, le-ltb _ _ c.if-k-gt-FIRST_ERROR.false)
