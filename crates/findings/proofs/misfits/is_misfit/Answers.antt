-- The tests are the definition's.
use mathlib.Core.Path.{sym, ◌∙◌}
use borrow.Author.Tests.{eq-eqb, ne_eqb}
use Rattle.laws.proofs.Choice.{within_is}
use Rattle.findings.specs.Misfits.{misfit_by}
use Rattle.findings.proofs.misfits.is_misfit.Goals as goal
use Rattle.findings.proofs.misfits.is_misfit.Goals.{then-row-ne-OPEN_PAREN-via-then-row-ne-OPEN_PAREN, then-row-ne-OPEN_PAREN-via-else-row-ne-OPEN_PAREN+then-not-is_within}

pub returns-then-row-ne-OPEN_PAREN : goal.returns-then-row-ne-OPEN_PAREN
unfolding misfit_by
returns-then-row-ne-OPEN_PAREN c =
    elim c.then-row-ne-OPEN_PAREN.branch [
      | then-row-ne-OPEN_PAREN-via-then-row-ne-OPEN_PAREN w ↦ simp (ne_eqb _ _ w.if-row-ne-OPEN_PAREN.true)
      | then-row-ne-OPEN_PAREN-via-else-row-ne-OPEN_PAREN+then-not-is_within w ↦
          simp (eq-eqb _ _ w.if-row-ne-OPEN_PAREN.false, sym w.is_within.ensures ∙ w.if-not-is_within.true)
    ]

pub overflow_sub-row : goal.overflow_sub-row
overflow_sub-row c = (within_is 1 64 c.args.row.depth (sym c.is_within.ensures ∙ c.if-not-is_within.false)).0

pub overflow_sub-row-2 : goal.overflow_sub-row-2
overflow_sub-row-2 c = (within_is 1 64 c.args.row.depth (sym c.is_within.ensures ∙ c.if-not-is_within.false)).0

pub returns : goal.returns
unfolding misfit_by
returns c =
    simp (
      eq-eqb _ _ c.if-row-ne-OPEN_PAREN.false,
      sym c.is_within.ensures ∙ c.if-not-is_within.false,
      sym c.kept_at-outer.ensures,
      sym c.kept_at-offset.ensures,
    )
    c.stands_out.ensures
