use mathlib.Core.Path.{refl, ◌∙◌}
use native.Mathlib.Omega.{arith}
use borrow.Author.Tests.{le-leb, lt-leb}
use Rattle.laws.proofs.Choice.{if_yes, if_no}
use Rattle.items_exports.specs.Records.{opener_of}
use Rattle.items_exports.proofs.Back.{inside_none, inside_some}
use Rattle.items_exports.proofs.records.mihadrena_opener.Goals as goal

-- src/records.rt:71:9
pub returns-then-count-at : goal.returns-then-count-at
unfolding opener_of
returns-then-count-at c = if_yes _ _ _ (le-leb _ _ c.if-count-at.true) refl

-- src/records.rt:75:9
pub returns-then-depth-eq0 : goal.returns-then-depth-eq0
unfolding opener_of
returns-then-depth-eq0 c = if_no _ _ _ (lt-leb _ _ c.if-count-at.false) (inside_none _ _ _ _ c.if-depth-eq0.true)

-- src/records.rt:65:1
pub returns : goal.returns
unfolding opener_of
returns c = if_no _ _ _ (lt-leb _ _ c.if-count-at.false) (c.open_before.ensures ∙ inside_some _ _ _ _ (omega (arith, c.if-depth-eq0.false)))
