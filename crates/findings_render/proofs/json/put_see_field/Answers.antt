-- By the test.
use mathlib.Core.Path.{sym, ◌∙◌}
use Rattle.findings_render.specs.Json.{see_field}
use Rattle.findings_render_parts.proofs.OneByOne.{joined}
use Rattle.findings_render.proofs.json.put_see_field.Goals as goal

pub returns-then-not-is_told : goal.returns-then-not-is_told
unfolding see_field
returns-then-not-is_told c =
    rw (sym c.is_told.ensures ∙ c.if-not-is_told.true) c.put.ensures

pub returns : goal.returns
unfolding see_field
returns c =
    rw (sym c.is_told.ensures ∙ c.if-not-is_told.false) (joined c.put_spot_fields-placed.ensures
    (joined c.put_byte_fields-counted.ensures c.put_told.ensures))
