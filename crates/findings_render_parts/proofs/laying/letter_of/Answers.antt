-- Only a tab has another letter.
use borrow.Author.Tests.{eq-eqb, ne_eqb}
use Rattle.findings_render_parts.specs.Laid.{letter}
use Rattle.findings_render_parts.proofs.laying.letter_of.Goals as goal

pub returns-then-b-eq9 : goal.returns-then-b-eq9
unfolding letter
returns-then-b-eq9 c = rw (eq-eqb _ _ c.if-b-eq9.true)

pub returns-else-b-eq9 : goal.returns-else-b-eq9
unfolding letter
returns-else-b-eq9 c = rw (ne_eqb _ _ c.if-b-eq9.false)
