-- One after the other.
use Rattle.findings_render.specs.Rendered.{picture}
use Rattle.findings_render_parts.proofs.OneByOne.{joined}
use Rattle.findings_render.proofs.picture.put_picture.Goals as goal

pub returns : goal.returns
unfolding picture
returns c =
    joined (rw (c.window-w.ensures, c.line_number.ensures) at c.put_line-lined.ensures)
    (rw c.window-w.ensures at c.put_under_line.ensures)
