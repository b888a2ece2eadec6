-- One after the other.
use Rattle.findings_render.specs.Json.{json}
use Rattle.findings_render_parts.proofs.OneByOne.{joined}
use Rattle.findings_render.proofs.json.put_json.Goals as goal

pub returns : goal.returns
unfolding json
returns c =
    joined c.put-begun.ensures (joined c.put_name-named.ensures (joined c.put_place_fields-placed.ensures
    (joined c.put_word_fields-worded.ensures (joined c.put_help_field-helped.ensures
    (joined c.put_see_field-seen.ensures c.put.ensures)))))
