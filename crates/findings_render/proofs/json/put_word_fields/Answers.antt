-- One after the other.
use Rattle.findings_render.specs.Json.{word_fields}
use Rattle.findings_render_parts.proofs.OneByOne.{joined}
use Rattle.findings_render.proofs.json.put_word_fields.Goals as goal

pub returns : goal.returns
unfolding word_fields
returns c =
    joined c.put-first.ensures (joined c.put_severity_word-weighed.ensures (joined c.put-second.ensures
    (joined (rw c.code_of-code.ensures at c.put-coded.ensures) c.put_told.ensures)))
