-- The parts are what they are called.
use mathlib.Core.Path.{◌∙◌}
use Rattle.findings.proofs.lists.around_misfit.Goals as goal

pub returns : goal.returns
returns c =
    let depth-at = c.depth_at-depth in
    c.at_rows.ensures ∙ rw (c.opener_of-q.ensures, c.row_at-row.ensures, depth-at.ensures)
