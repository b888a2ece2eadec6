-- One after the other.
use Rattle.findings_render.specs.Rendered.{severity}
use Rattle.findings_render_parts.proofs.OneByOne.{joined}
use Rattle.findings_render.proofs.lines.put_severity.Goals as goal

pub returns : goal.returns
unfolding severity
returns c =
    joined c.put_paint-painted.ensures (joined c.put_severity_word-worded.ensures (joined c.put-ended.ensures c.put_if.ensures))
