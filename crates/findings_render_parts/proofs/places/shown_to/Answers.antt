-- By the test.
use borrow.Author.Tests.{le-leb, lt-leb}
use Rattle.findings_render_parts.specs.Spots.{shown_to}
use Rattle.findings_render_parts.proofs.places.shown_to.Goals as goal

pub returns-then-saturating_sub-le-SHOWN : goal.returns-then-saturating_sub-le-SHOWN
unfolding shown_to
returns-then-saturating_sub-le-SHOWN c = rw (le-leb _ _ (rw c.saturating_sub.ensures at c.if-saturating_sub-le-SHOWN.true))

pub returns : goal.returns
unfolding shown_to
returns c = rw (lt-leb _ _ (rw c.saturating_sub.ensures at c.if-saturating_sub-le-SHOWN.false)) c.next_character.ensures
