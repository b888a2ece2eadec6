-- Nothing is marked where nothing is quoted.
use Rattle.findings_render_parts.specs.Laid.{is_marked}
use Rattle.findings_render_parts.proofs.laying.is_marked.Goals as goal

pub returns-then-quoted : goal.returns-then-quoted
unfolding is_marked
returns-then-quoted c = rw c.if-quoted.true c.is_special.ensures

pub returns-else-quoted : goal.returns-else-quoted
unfolding is_marked
returns-else-quoted c = rw c.if-quoted.false
