-- By the test.
use Rattle.findings_render_parts.proofs.OneByOne.{nothing}
use Rattle.findings_render.proofs.lines.put_picture_if.Goals as goal

pub returns-then-full : goal.returns-then-full
returns-then-full c =
    rw c.if-full.true c.put_picture.ensures

pub returns-else-full : goal.returns-else-full
returns-else-full c = rw c.if-full.false nothing
