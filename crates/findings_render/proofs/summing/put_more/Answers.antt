-- By the test.
use borrow.Author.Tests.{lt-ltb, le-ltb}
use Rattle.findings_render.specs.Summed.{more}
use Rattle.findings_render_parts.proofs.OneByOne.{nothing, joined}
use Rattle.findings_render.proofs.summing.put_more.Goals as goal

pub returns-then-findings-told : goal.returns-then-findings-told
unfolding more
returns-then-findings-told c = rw (le-ltb _ _ c.if-findings-told.true) nothing

pub returns : goal.returns
unfolding more
returns c =
    rw (lt-ltb _ _ c.if-findings-told.false) (joined c.put-named.ensures (joined c.put-parted.ensures
    (joined (rw c.saturating_sub.ensures at c.put_number-counted.ensures) c.put.ensures)))
