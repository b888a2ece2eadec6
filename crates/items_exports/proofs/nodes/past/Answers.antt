use native.Mathlib.Omega.{arith}
use Prim.Native.Nat.{◌+◌, ◌*◌}
use mathlib.Core.Path.{refl}
use borrow.Author.Tests.{le-leb, lt-leb}
use Rattle.laws.proofs.Choice.{if_yes, if_no}
use Rattle.items_exports.specs.Nodes.{past_of}
use Rattle.items_exports.proofs.nodes.past.Goals as goal

-- src/nodes.rt:17:19
pub overflow_cast-beneath : goal.overflow_cast-beneath
overflow_cast-beneath c = omega (arith, c.shared_slice_known-1.given (c.args.at * 3 + 2))

-- src/nodes.rt:19:9
pub returns-then-count-at : goal.returns-then-count-at
unfolding past_of
returns-then-count-at c = if_yes _ _ _ (le-leb _ _ c.if-count-at.true) refl

-- src/nodes.rt:12:1
pub returns : goal.returns
unfolding past_of
returns c = if_no _ _ _ (lt-leb _ _ c.if-count-at.false) refl
