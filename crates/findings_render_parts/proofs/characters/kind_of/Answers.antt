-- The invariant: no row before this one has the character.
use mathlib.Core.Path.{sym, ◌∙◌}
use Rattle.findings_render_parts.specs.Shown.{ranges}
use Rattle.findings_render_parts.proofs.Walks.{kind_here, kind_later, kind_other}
use Rattle.findings_render_parts.proofs.characters.kind_of.Goals as goal

pub returns-then-is_within : goal.returns-then-is_within
unfolding ranges
returns-then-is_within c =
    sym (c.loop-low.invariant ∙ kind_here c.args.c c.loop-low.low-index c.loop-low-test.true (sym c.is_within.ensures ∙ c.if-is_within.true))

pub loop-low-preserved : goal.loop-low-preserved
unfolding ranges
loop-low-preserved c =
    c.loop-low.invariant ∙ kind_later c.args.c c.loop-low.low-index c.loop-low-test.true (sym c.is_within.ensures ∙ c.if-is_within.false)

pub returns : goal.returns
returns c = sym (c.loop-low.invariant ∙ kind_other c.args.c c.loop-low.low-index c.loop-low-test.false)
