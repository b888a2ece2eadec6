-- The tests of `in_word` in its order.
use mathlib.Core.Path.{sym, ◌∙◌}
use borrow.Author.Tests.{eq-eqb, ne_eqb}
use Rattle.items.specs.Classes.{in_word}
use Rattle.steps.proofs.words.read_word.Goals as goal

pub returns-then-breaks_word : goal.returns-then-breaks_word
unfolding in_word
returns-then-breaks_word c = simp (sym c.breaks_word.ensures ∙ c.if-breaks_word.true)

pub returns-then-c-eq-BACKSLASH : goal.returns-then-c-eq-BACKSLASH
unfolding in_word
returns-then-c-eq-BACKSLASH c = simp (sym c.breaks_word.ensures ∙ c.if-breaks_word.false, eq-eqb _ _ c.if-c-eq-BACKSLASH.true)

pub returns : goal.returns
unfolding in_word
returns c = simp (sym c.breaks_word.ensures ∙ c.if-breaks_word.false, ne_eqb _ _ c.if-c-eq-BACKSLASH.false)
