-- By the test.
use borrow.Author.Tests.{lt-ltb, le-ltb}
use Rattle.findings_render.specs.Rendered.{severity_word}
use Rattle.findings_render.proofs.lines.put_severity_word.Goals as goal

pub returns-then-t-gt-WARNING : goal.returns-then-t-gt-WARNING
unfolding severity_word
returns-then-t-gt-WARNING c =
    rw (lt-ltb _ _ c.if-t-gt-WARNING.true) c.put.ensures

pub returns-else-t-gt-WARNING : goal.returns-else-t-gt-WARNING
unfolding severity_word
returns-else-t-gt-WARNING c =
    rw (le-ltb _ _ c.if-t-gt-WARNING.false) c.put-else-t-gt-WARNING.ensures
