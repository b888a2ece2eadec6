-- One after the other.
use Rattle.findings_render.specs.Summed.{last}
use Rattle.findings_render_parts.proofs.OneByOne.{joined}
use Rattle.findings_render.proofs.summing.put_last.Goals as goal

pub returns : goal.returns
unfolding last
returns c =
    joined c.put-named.ensures (joined c.put-parted.ensures (joined c.put_counts-counted.ensures c.put.ensures))
