-- The tests of `in_run` in its order.
use mathlib.Core.Path.{sym, ◌∙◌}
use Rattle.items.specs.Classes.{in_run}
use Rattle.steps.proofs.words.read_number.Goals as goal

pub returns-then-stays_run : goal.returns-then-stays_run
unfolding in_run
returns-then-stays_run c = simp (sym c.stays_run.ensures ∙ c.if-stays_run.true)

pub returns-then-ends_run : goal.returns-then-ends_run
unfolding in_run
returns-then-ends_run c = simp (sym c.stays_run.ensures ∙ c.if-stays_run.false, sym c.ends_run.ensures ∙ c.if-ends_run.true)

pub returns-then-bars_run : goal.returns-then-bars_run
unfolding in_run
returns-then-bars_run c = simp (
  sym c.stays_run.ensures ∙ c.if-stays_run.false,
  sym c.ends_run.ensures ∙ c.if-ends_run.false,
  sym c.bars_run.ensures ∙ c.if-bars_run.true,
)

pub returns : goal.returns
unfolding in_run
returns c = simp (
  sym c.stays_run.ensures ∙ c.if-stays_run.false,
  sym c.ends_run.ensures ∙ c.if-ends_run.false,
  sym c.bars_run.ensures ∙ c.if-bars_run.false,
  c.enter_word.ensures,
)
