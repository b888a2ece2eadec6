-- One after the other.
use Rattle.findings_render.specs.Rendered.{spot}
use Rattle.findings_render_parts.proofs.OneByOne.{joined}
use Rattle.findings_render.proofs.lines.put_spot.Goals as goal

pub returns : goal.returns
unfolding spot
returns c =
    joined c.put-named.ensures (joined c.put-first.ensures (joined (rw c.line_number.ensures at c.put_number-lined.ensures)
    (joined c.put-second.ensures (joined (rw c.column_number.ensures at c.put_number-placed.ensures) c.put.ensures))))
