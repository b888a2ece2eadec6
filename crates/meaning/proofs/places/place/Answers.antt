-- The tests are the definition's two, one after the other.
use mathlib.Core.Path.{sym, ◌∙◌}
use borrow.Author.Tests.{lt-leb, le-leb}
use Rattle.meaning.proofs.places.place.Goals as goal

pub returns-then-kind-lt-FIRST_ERROR : goal.returns-then-kind-lt-FIRST_ERROR
returns-then-kind-lt-FIRST_ERROR c = rw (lt-leb _ _ c.if-kind-lt-FIRST_ERROR.true)

pub returns-then-is_set : goal.returns-then-is_set
returns-then-is_set c = rw (le-leb _ _ c.if-kind-lt-FIRST_ERROR.false, sym c.is_set.ensures ∙ c.if-is_set.true)

pub returns : goal.returns
returns c = rw (le-leb _ _ c.if-kind-lt-FIRST_ERROR.false, sym c.is_set.ensures ∙ c.if-is_set.false)
