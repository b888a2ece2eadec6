-- By the test.
use mathlib.Core.Path.{sym, ◌∙◌}
use Rattle.findings_render.specs.Json.{help_field}
use Rattle.findings_render.proofs.json.put_help_field.Goals as goal

pub returns-then-not-is_told : goal.returns-then-not-is_told
unfolding help_field
returns-then-not-is_told c =
    rw (sym c.is_told.ensures ∙ c.if-not-is_told.true) c.put.ensures

pub returns : goal.returns
unfolding help_field
returns c =
    rw (sym c.is_told.ensures ∙ c.if-not-is_told.false) c.put_told.ensures
