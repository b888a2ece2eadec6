-- The finding is of the rows that are read.
use Rattle.findings.proofs.lists.at_rows.Goals as goal

pub returns : goal.returns
returns c = simp (c.row_at-other.ensures, c.row_at-row.ensures)
