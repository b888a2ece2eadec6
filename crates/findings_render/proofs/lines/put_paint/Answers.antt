-- By the test.
use borrow.Author.Tests.{lt-ltb, le-ltb}
use Rattle.findings_render.proofs.lines.put_paint.Goals as goal

pub returns-then-t-gt-WARNING : goal.returns-then-t-gt-WARNING
returns-then-t-gt-WARNING c =
    rw (lt-ltb _ _ c.if-t-gt-WARNING.true) c.put_if.ensures

pub returns-else-t-gt-WARNING : goal.returns-else-t-gt-WARNING
returns-else-t-gt-WARNING c =
    rw (le-ltb _ _ c.if-t-gt-WARNING.false) c.put_if-else-t-gt-WARNING.ensures
