-- By the test.
use Rattle.findings_render.specs.Rendered.{body}
use Rattle.findings_render_parts.proofs.OneByOne.{nothing, joined}
use Rattle.findings_render.proofs.lines.put_body_if.Goals as goal

pub returns-then-not-full : goal.returns-then-not-full
returns-then-not-full c =
    rw c.if-not-full.true nothing

pub returns : goal.returns
unfolding body
returns c =
    rw c.if-not-full.false (joined c.put_picture-pictured.ensures c.put_help.ensures)
