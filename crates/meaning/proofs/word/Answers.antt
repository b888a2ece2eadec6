-- The tests go by the definition's order: a word of the table, a plus with more, any other word.
use Rattle.items.specs.Meaning.{word_means}
use borrow.Author.Tests.{eq-eqb, ne_eqb}
use mathlib.Core.Path.{sym, ◌∙◌}
use Rattle.meaning.proofs.word.Goals as goal

pub returns-then-kind-ne-IDENTIFIER : goal.returns-then-kind-ne-IDENTIFIER
unfolding word_means
returns-then-kind-ne-IDENTIFIER c = rw (sym c.word_kind-kind.ensures, ne_eqb _ _ c.if-kind-ne-IDENTIFIER.true, c.one.ensures)

pub returns-then-splits : goal.returns-then-splits
unfolding word_means
returns-then-splits c = rw (
  sym c.word_kind-kind.ensures,
  eq-eqb _ _ c.if-kind-ne-IDENTIFIER.false,
  sym c.splits.ensures ∙ c.if-splits.true,
  c.two.ensures,
)

pub returns : goal.returns
unfolding word_means
returns c = rw (
  sym c.word_kind-kind.ensures,
  eq-eqb _ _ c.if-kind-ne-IDENTIFIER.false,
  sym c.splits.ensures ∙ c.if-splits.false,
  c.one-2.ensures,
)
