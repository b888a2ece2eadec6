-- By the tests.
use mathlib.Core.Path.{ap, ◌∙◌}
use borrow.Author.Tests.{le-leb, lt-leb}
use Rattle.findings_render_parts.specs.Spots.{shown_from, next_character}
use Rattle.findings_render_parts.proofs.places.shown_from.Goals as goal

pub returns-then-saturating_sub-le-SHOWN : goal.returns-then-saturating_sub-le-SHOWN
unfolding shown_from
returns-then-saturating_sub-le-SHOWN c = rw (le-leb _ _ (rw c.saturating_sub.ensures at c.if-saturating_sub-le-SHOWN.true))

pub returns-then-saturating_sub-le-SHOWN_BEFORE : goal.returns-then-saturating_sub-le-SHOWN_BEFORE
unfolding shown_from
returns-then-saturating_sub-le-SHOWN_BEFORE c =
    rw (lt-leb _ _ (rw c.saturating_sub.ensures at c.if-saturating_sub-le-SHOWN.false), le-leb _ _ (rw c.saturating_sub-2.ensures at c.if-saturating_sub-le-SHOWN_BEFORE.true))

pub returns : goal.returns
unfolding shown_from
returns c =
    rw (lt-leb _ _ (rw c.saturating_sub.ensures at c.if-saturating_sub-le-SHOWN.false), lt-leb _ _ (rw c.saturating_sub-2.ensures at c.if-saturating_sub-le-SHOWN_BEFORE.false))
    (c.next_character.ensures ∙ ap (next_character c.args.s.now) c.saturating_sub-3.ensures)
