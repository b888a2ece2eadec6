-- One after the other.
use Rattle.findings_render_parts.proofs.OneByOne.{joined, as_quoted}
use Rattle.findings_render.proofs.lines.put_told.Goals as goal

pub returns : goal.returns
returns c = joined c.put-begun.ensures (joined (as_quoted c.put_text-worded.ensures) c.put.ensures)
