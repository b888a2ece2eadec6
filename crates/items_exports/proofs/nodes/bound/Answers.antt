use mathlib.Core.Path.{refl}
use borrow.Author.Tests.{le-leb, lt-leb}
use Rattle.laws.proofs.Choice.{if_yes, if_no}
use Rattle.items_exports.specs.Nodes.{bound_of}
use Rattle.items_exports.proofs.nodes.bound.Goals as goal

-- src/nodes.rt:45:9
pub returns-then-count-within : goal.returns-then-count-within
unfolding bound_of
returns-then-count-within c = if_yes _ _ _ (le-leb _ _ c.if-count-within.true) refl

-- src/nodes.rt:40:1
pub returns : goal.returns
unfolding bound_of
returns c = if_no _ _ _ (lt-leb _ _ c.if-count-within.false) c.past.ensures
