-- The tests of `in_quotes` in its order. The step does not depend on the bytes of the item.
use mathlib.Core.Path.{sym, ◌∙◌}
use borrow.Author.Tests.{eq-eqb, ne_eqb}
use Rattle.items.specs.Classes.{in_quotes}
use Rattle.steps.proofs.quotes.read_string.Goals as goal

pub returns-then-c-delim_of : goal.returns-then-c-delim_of
unfolding in_quotes
returns-then-c-delim_of c = λ raw. simp (eq-eqb _ _ (c.if-c-delim_of.true ∙ c.delim_of.ensures))

pub returns-then-c-eq-BACKSLASH : goal.returns-then-c-eq-BACKSLASH
unfolding in_quotes
returns-then-c-eq-BACKSLASH c = λ raw. simp (ne_eqb _ _ (λ h. c.if-c-delim_of.false (h ∙ sym c.delim_of.ensures)), eq-eqb _ _ c.if-c-eq-BACKSLASH.true)

pub returns : goal.returns
unfolding in_quotes
returns c = λ raw. simp (ne_eqb _ _ (λ h. c.if-c-delim_of.false (h ∙ sym c.delim_of.ensures)), ne_eqb _ _ c.if-c-eq-BACKSLASH.false)
