-- The finding is of the row that is read.
use Rattle.findings.proofs.lists.at_row.Goals as goal

pub returns : goal.returns
returns c = simp c.row_at-row.ensures
