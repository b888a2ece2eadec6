-- The tests are the definition's.
use mathlib.Core.Path.{sym, ◌∙◌}
use Rattle.findings.specs.Slips.{number_slip}
use Rattle.findings.proofs.slips.number_slip.Goals as goal

pub returns-then-comma_follows : goal.returns-then-comma_follows
unfolding number_slip
returns-then-comma_follows c =
    rw (← c.row_at-row.ensures, ← c.row_at-rest.ensures)
    (rw (sym c.like_number.ensures ∙ c.if-like_number.true, sym c.comma_follows.ensures ∙ c.if-comma_follows.true, ← c.length_of.ensures)
    c.warn.ensures)

pub returns-then-like_number : goal.returns-then-like_number
unfolding number_slip
returns-then-like_number c =
    rw (← c.row_at-row.ensures)
    (rw (sym c.like_number.ensures ∙ c.if-like_number.true, sym c.comma_follows.ensures ∙ c.if-comma_follows.false)
    c.warn-then-like_number.ensures)

pub returns : goal.returns
unfolding number_slip
returns c = rw (← c.row_at-row.ensures) (rw (sym c.like_number.ensures ∙ c.if-like_number.false))
