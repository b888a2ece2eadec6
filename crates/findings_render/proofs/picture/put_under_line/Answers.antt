-- One after the other.
use mathlib.Core.Path.{ap}
use Rattle.findings_render_parts.specs.Shown.{under, carets}
use Rattle.findings_render.specs.Rendered.{under_line}
use Rattle.findings_render_parts.proofs.OneByOne.{joined, as_laid}
use Rattle.findings_render.proofs.Least.{least_is}
use Rattle.findings_render.proofs.picture.put_under_line.Goals as goal

pub returns : goal.returns
unfolding under_line
returns c =
    joined c.put-barred.ensures (joined c.put_if-begun.ensures
    (joined (as_laid (ap (under 32) c.part.ensures) c.put_under-under.ensures)
    (joined c.put_if-painted.ensures
    (joined (as_laid (ap carets (rw (c.min.ensures, least_is) at c.part-2.ensures)) c.put_carets-marked.ensures)
    (joined c.put_if-ended.ensures c.put.ensures)))))
