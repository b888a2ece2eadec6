use mathlib.Core.Path.{refl}
use native.Mathlib.Omega.{arith}
use borrow.Author.Tests.{le-leb, lt-leb, lt-ltb, le-ltb}
use Rattle.laws.proofs.Choice.{if_yes, if_no}
use Rattle.items_exports.specs.Nodes.{past_of, bound_of, sibling_of}
use Rattle.items_exports.proofs.nodes.mihadrena_next_sibling.Goals as goal

-- src/nodes.rt:58:9
pub returns-then-count-at : goal.returns-then-count-at
unfolding sibling_of
returns-then-count-at c = if_yes _ _ _ (le-leb _ _ c.if-count-at.true) refl

-- src/nodes.rt:62:9
pub returns-then-next-bound : goal.returns-then-next-bound
unfolding sibling_of
returns-then-next-bound c =
    let s = c.args.nodes.now in
    let at = c.args.at in
    if_no _ _ _ (lt-leb _ _ c.if-count-at.false)
    (if_yes _ _ _ (lt-ltb (past_of s at) (bound_of s c.args.within) (omega (arith, c.if-next-bound.true, c.bound.ensures, c.past-next.ensures))) c.past-next.ensures)

-- src/nodes.rt:52:1
pub returns : goal.returns
unfolding sibling_of
returns c =
    let s = c.args.nodes.now in
    let at = c.args.at in
    if_no _ _ _ (lt-leb _ _ c.if-count-at.false)
    (if_no _ _ _ (le-ltb (past_of s at) (bound_of s c.args.within) (omega (arith, c.if-next-bound.false, c.bound.ensures, c.past-next.ensures))) refl)
