-- By the tests.
use borrow.Author.Tests.{eq-eqb, ne_eqb}
use Rattle.findings_render_parts.specs.Shown.{is_copied}
use Rattle.findings_render_parts.proofs.Walks.{no_tab}
use Rattle.findings_render_parts.proofs.characters.is_copied.Goals as goal

pub returns-in-Tab : goal.returns-in-Tab
unfolding is_copied
returns-in-Tab c = rw (eq-eqb _ _ c.if-mark-eq32.true, c.in-Tab.is)

pub returns-in_default : goal.returns-in_default
unfolding is_copied
returns-in_default c = rw (eq-eqb _ _ c.if-mark-eq32.true, no_tab _ c.in_default.not-Tab)

pub returns-else-mark-eq32 : goal.returns-else-mark-eq32
unfolding is_copied
returns-else-mark-eq32 c = rw (ne_eqb _ _ c.if-mark-eq32.false)
