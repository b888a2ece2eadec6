-- One after the other.
use Rattle.findings_render.specs.Rendered.{lines}
use Rattle.findings_render_parts.proofs.OneByOne.{joined}
use Rattle.findings_render.proofs.lines.put_lines.Goals as goal

pub returns : goal.returns
unfolding lines
returns c =
    joined c.put_headline-headed.ensures (joined c.put_body_if-told.ensures c.put_note.ensures)
