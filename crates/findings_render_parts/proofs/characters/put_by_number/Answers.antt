-- One after the other.
use Rattle.findings_render_parts.specs.Shown.{by_its_number}
use Rattle.findings_render_parts.proofs.OneByOne.{joined}
use Rattle.findings_render_parts.proofs.characters.put_by_number.Goals as goal

pub returns : goal.returns
unfolding by_its_number
returns c =
    joined c.put-begun.ensures (joined (rw c.hex_count.ensures.0 at c.put_digits-told.ensures) c.put.ensures)
