-- One after the other.
use Rattle.findings_render.specs.Summed.{count_of}
use Rattle.findings_render_parts.proofs.OneByOne.{joined}
use Rattle.findings_render.proofs.summing.put_count.Goals as goal

pub returns : goal.returns
unfolding count_of
returns c =
    joined c.put_number-counted.ensures (joined c.put-worded.ensures c.put_if.ensures)
