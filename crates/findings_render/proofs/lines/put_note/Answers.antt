-- By the test.
use mathlib.Core.List.{append_assoc}
use mathlib.Core.Path.{sym, ◌∙◌}
use Rattle.findings_render.specs.Rendered.{note}
use Rattle.findings_render_parts.proofs.OneByOne.{nothing, joined, as_laid, unquoted}
use Rattle.findings_render.proofs.lines.put_note.Goals as goal

pub returns-then-not-is_told : goal.returns-then-not-is_told
unfolding note
returns-then-not-is_told c = rw (sym c.is_told.ensures ∙ c.if-not-is_told.true) nothing

pub returns : goal.returns
unfolding note
returns c =
    rw (sym c.is_told.ensures ∙ c.if-not-is_told.false) (joined c.put_spot-placed.ensures
    (as_laid (rw append_assoc) (joined (rw unquoted at c.put_told-told.ensures) c.put_picture_if.ensures)))
