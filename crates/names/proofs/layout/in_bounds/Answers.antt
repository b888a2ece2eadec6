-- The four tests are those of the definition, in its order.
use mathlib.Core.Path.{refl, sym, ◌∙◌}
use borrow.Author.Tests.{le-leb, lt-leb}
use Rattle.laws.proofs.Choice.{if_yes, if_no}
use Rattle.names.specs.Layout.{is_in_bounds}
use Rattle.names.proofs.layout.in_bounds.Goals as goal

pub returns-then-words-lt-TABLE_WORDS : goal.returns-then-words-lt-TABLE_WORDS
unfolding is_in_bounds
returns-then-words-lt-TABLE_WORDS c = if_no _ _ _ (lt-leb _ _ c.if-words-lt-TABLE_WORDS.true) refl

pub returns-then-bytes-lt-TABLE_BYTES : goal.returns-then-bytes-lt-TABLE_BYTES
unfolding is_in_bounds
returns-then-bytes-lt-TABLE_BYTES c = if_yes _ _ _ (le-leb _ _ c.if-words-lt-TABLE_WORDS.false) (if_no _ _ _ (lt-leb _ _ c.if-bytes-lt-TABLE_BYTES.true) refl)

pub returns-then-half_in_bounds : goal.returns-then-half_in_bounds
unfolding is_in_bounds
returns-then-half_in_bounds c =
    if_yes _ _ _ (le-leb _ _ c.if-words-lt-TABLE_WORDS.false) (if_yes _ _ _ (le-leb _ _ c.if-bytes-lt-TABLE_BYTES.false)
    (if_yes _ _ _ (sym c.half_in_bounds.ensures ∙ c.if-half_in_bounds.true) c.half_in_bounds-then-half_in_bounds.ensures))

pub returns-else-half_in_bounds : goal.returns-else-half_in_bounds
unfolding is_in_bounds
returns-else-half_in_bounds c = if_yes _ _ _ (le-leb _ _ c.if-words-lt-TABLE_WORDS.false)
    (if_yes _ _ _ (le-leb _ _ c.if-bytes-lt-TABLE_BYTES.false) (if_no _ _ _ (sym c.half_in_bounds.ensures ∙ c.if-half_in_bounds.false) c.if-half_in_bounds.false))
