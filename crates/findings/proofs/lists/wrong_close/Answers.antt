-- The test is the definition's.
use mathlib.Core.Path.{◌∙◌}
use borrow.Author.Tests.{eq-eqb, ne_eqb}
use Rattle.findings.specs.Lists.{wrong_close}
use Rattle.findings.proofs.lists.wrong_close.Goals as goal

pub returns-then-depth-eq0 : goal.returns-then-depth-eq0
unfolding wrong_close
returns-then-depth-eq0 c = c.at_row.ensures ∙ rw (← c.depth_at-depth.ensures) (rw (eq-eqb _ _ c.if-depth-eq0.true))

pub returns : goal.returns
unfolding wrong_close
returns c =
    let depth-at = c.depth_at-depth in
    c.at_rows.ensures ∙ rw (← depth-at.ensures) (rw (ne_eqb _ _ c.if-depth-eq0.false, c.opener_of.ensures))
