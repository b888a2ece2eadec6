-- By the tests.
use borrow.Author.Tests.{lt-ltb, le-ltb, eq-eqb, ne_eqb}
use Rattle.findings_render_parts.specs.Spots.{cut_return}
use Rattle.findings_render_parts.proofs.places.cut_return.Goals as goal
use Rattle.findings_render_parts.proofs.places.cut_return.Goals.{else-start-end-via-then-start-end+else-s-end-eq13, else-start-end-via-else-start-end}

pub returns-then-s-end-eq13 : goal.returns-then-s-end-eq13
unfolding cut_return
returns-then-s-end-eq13 c = rw (lt-ltb _ _ c.if-start-end.true, eq-eqb _ _ c.if-s-end-eq13.true)

pub returns-else-start-end : goal.returns-else-start-end
unfolding cut_return
returns-else-start-end c = elim c.else-start-end.branch [
  | else-start-end-via-then-start-end+else-s-end-eq13 w ↦ rw (lt-ltb _ _ w.if-start-end.true, ne_eqb _ _ w.if-s-end-eq13.false)
  | else-start-end-via-else-start-end w ↦ rw (le-ltb _ _ w.if-start-end.false)
]
