-- By the test.
use borrow.Author.Tests.{eq-eqb, ne_eqb}
use Rattle.findings_render.specs.Summed.{counts}
use Rattle.findings_render_parts.proofs.OneByOne.{joined}
use Rattle.findings_render.proofs.summing.put_counts.Goals as goal

pub returns-then-findings-eq0 : goal.returns-then-findings-eq0
unfolding counts
returns-then-findings-eq0 c =
    rw (eq-eqb _ _ c.if-findings-eq0.true) c.put.ensures

pub returns : goal.returns
unfolding counts
returns c =
    rw (ne_eqb _ _ c.if-findings-eq0.false) (joined c.put_count-first.ensures
    (joined c.put-parted.ensures (rw c.saturating_sub.ensures at c.put_count.ensures)))
