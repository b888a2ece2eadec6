-- The test is the definition's.
use mathlib.Core.Path.{◌∙◌}
use borrow.Author.Tests.{eq-eqb, ne_eqb}
use Rattle.findings.specs.Lists.{misplaced_dot, is_dot}
use Rattle.findings.proofs.lists.misplaced_dot.Goals as goal

pub returns-then-row-eq-DOT : goal.returns-then-row-eq-DOT
unfolding misplaced_dot
returns-then-row-eq-DOT c = c.at_row.ensures ∙ rw (← c.row_at-row.ensures) (rw (eq-eqb _ _ c.if-row-eq-DOT.true))

pub returns : goal.returns
unfolding misplaced_dot is_dot
returns c =
    let row_at = c.row_at-row in
    let if1 = c.if-row-eq-DOT in
    c.at_row-2.ensures ∙ rw (← row_at.ensures) (rw (ne_eqb _ _ if1.false, c.last_passing-dot.ensures, c.depth_at.ensures))
