-- By the test.
use mathlib.Core.Path.{ap, ◌∙◌}
use Rattle.laws.specs.Texts.{begins}
use Rattle.laws.proofs.Lent.{part_rest}
use Rattle.findings_render_messages.proofs.begins_at.Goals as goal

pub returns-then-start : goal.returns-then-start
returns-then-start c =
    rw c.if-start.true (c.begins_with.ensures ∙ ap (begins c.args.key.now) (part_rest c.args.t.now c.args.at))

pub returns-else-start : goal.returns-else-start
returns-else-start c = rw c.if-start.false
