-- One after the other.
use Rattle.findings_render.specs.Json.{spot_fields}
use Rattle.findings_render_parts.proofs.OneByOne.{joined}
use Rattle.findings_render.proofs.json.put_spot_fields.Goals as goal

pub returns : goal.returns
unfolding spot_fields
returns c =
    joined c.put-first.ensures (joined (rw c.line_number.ensures at c.put_number-lined.ensures)
    (joined c.put-second.ensures (rw c.column_number.ensures at c.put_number.ensures)))
