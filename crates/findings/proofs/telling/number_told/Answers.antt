-- The test is the definition's.
use mathlib.Core.Path.{sym, ◌∙◌}
use Rattle.findings.specs.Slips.{ends_otherwise}
use Rattle.findings.specs.Told.{number_told}
use Rattle.findings.proofs.telling.number_told.Goals as goal

pub returns-then-ends_in_report : goal.returns-then-ends_in_report
unfolding number_told ends_otherwise
returns-then-ends_in_report c =
    let row_at = c.row_at-row in
    let byte_at = c.byte_at-b in
    rw (← row_at.ensures, ← byte_at.ensures)
    (rw (sym c.ends_in_report.ensures ∙ c.if-ends_in_report.true) c.warn.ensures)

pub returns : goal.returns
unfolding number_told ends_otherwise
returns c =
    let row_at = c.row_at-row in
    rw (← row_at.ensures, ← c.byte_at-b.ensures)
    (rw (sym c.ends_in_report.ensures ∙ c.if-ends_in_report.false))
