-- One after the other.
use Rattle.findings_render.specs.Json.{byte_fields}
use Rattle.findings_render_parts.proofs.OneByOne.{joined}
use Rattle.findings_render.proofs.json.put_byte_fields.Goals as goal

pub returns : goal.returns
unfolding byte_fields
returns c =
    joined c.put-first.ensures (joined c.put_number-begun.ensures (joined c.put-second.ensures c.put_number.ensures))
