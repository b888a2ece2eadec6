use mathlib.Core.Path.{refl, sym, ◌∙◌}
use borrow.Author.Tests.{le-leb, lt-leb, eq-eqb, ne_eqb}
use Rattle.laws.proofs.Choice.{if_yes, if_no}
use Rattle.items_exports.specs.Nodes.{child_of}
use Rattle.items_exports.proofs.nodes.mihadrena_first_child.Goals as goal

-- src/nodes.rt:31:9
pub returns-then-count-at : goal.returns-then-count-at
unfolding child_of
returns-then-count-at c = if_yes _ _ _ (le-leb _ _ c.if-count-at.true) refl

-- src/nodes.rt:34:9
pub returns-then-past-at : goal.returns-then-past-at
unfolding child_of
returns-then-past-at c = if_no _ _ _ (lt-leb _ _ c.if-count-at.false) (if_yes _ _ _ (eq-eqb _ _ (sym c.past.ensures ∙ c.if-past-at.true)) refl)

-- src/nodes.rt:25:1
pub returns : goal.returns
unfolding child_of
returns c = if_no _ _ _ (lt-leb _ _ c.if-count-at.false) (if_no _ _ _ (ne_eqb _ _ (λ e. c.if-past-at.false (c.past.ensures ∙ e))) refl)
