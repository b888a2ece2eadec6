-- One after the other.
use mathlib.Core.Path.{ap}
use Rattle.findings_render_parts.specs.Shown.{shown}
use Rattle.findings_render.specs.Rendered.{line_of}
use Rattle.findings_render_parts.proofs.OneByOne.{joined, as_laid}
use Rattle.findings_render.proofs.picture.put_line.Goals as goal

pub returns : goal.returns
unfolding line_of
returns c =
    joined c.put_aligned-numbered.ensures (joined c.put-barred.ensures
    (joined c.put_if-begun.ensures
    (joined (as_laid (ap shown c.part.ensures) c.put_shown-shown.ensures)
    (joined c.put_if-ended.ensures c.put.ensures))))
