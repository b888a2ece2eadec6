-- One after the other.
use Rattle.findings_render_parts.specs.Shown.{as_its_byte}
use Rattle.findings_render_parts.proofs.OneByOne.{joined}
use Rattle.findings_render_parts.proofs.characters.put_as_byte.Goals as goal

pub returns : goal.returns
unfolding as_its_byte
returns c =
    joined c.put-begun.ensures (joined c.put_digits-told.ensures c.put.ensures)
