-- By the test.
use mathlib.Core.Path.{sym, ◌∙◌}
use Rattle.findings_render.specs.Rendered.{help}
use Rattle.findings_render_parts.proofs.OneByOne.{nothing, unquoted}
use Rattle.findings_render.proofs.lines.put_help.Goals as goal

pub returns-then-not-is_told : goal.returns-then-not-is_told
unfolding help
returns-then-not-is_told c = rw (sym c.is_told.ensures ∙ c.if-not-is_told.true) nothing

pub returns : goal.returns
unfolding help
returns c =
    rw (sym c.is_told.ensures ∙ c.if-not-is_told.false) (rw unquoted at c.put_told.ensures)
