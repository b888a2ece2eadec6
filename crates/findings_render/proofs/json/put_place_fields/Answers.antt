-- One after the other.
use Rattle.findings_render.specs.Json.{place_fields}
use Rattle.findings_render_parts.proofs.OneByOne.{joined}
use Rattle.findings_render.proofs.json.put_place_fields.Goals as goal

pub returns : goal.returns
unfolding place_fields
returns c =
    joined c.put_spot_fields-begun.ensures (joined c.put_spot_fields-ended.ensures c.put_byte_fields.ensures)
