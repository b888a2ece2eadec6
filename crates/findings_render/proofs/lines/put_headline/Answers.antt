-- One after the other.
use Rattle.findings_render.specs.Rendered.{headline}
use Rattle.findings_render_parts.proofs.OneByOne.{joined}
use Rattle.findings_render.proofs.lines.put_headline.Goals as goal

pub returns : goal.returns
unfolding headline
returns c =
    joined c.put_spot-placed.ensures (joined c.put_severity-weighed.ensures (joined c.put_text-worded.ensures
    (joined c.put-opened.ensures (joined (rw c.code_of-code.ensures at c.put-coded.ensures) c.put.ensures))))
