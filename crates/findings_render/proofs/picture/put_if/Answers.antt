-- By the test.
use Rattle.findings_render_parts.proofs.OneByOne.{nothing}
use Rattle.findings_render.proofs.picture.put_if.Goals as goal

pub returns-then-there : goal.returns-then-there
returns-then-there c =
    rw c.if-there.true c.put.ensures

pub returns-else-there : goal.returns-else-there
returns-else-there c = rw c.if-there.false nothing
