-- One test, as the machine has it.
use mathlib.Core.Path.{sym, ◌∙◌}
use Rattle.steps.proofs.here.here_body.Goals as goal

pub returns-then-here_ends : goal.returns-then-here_ends
returns-then-here_ends c = simp (sym c.here_ends.ensures ∙ c.if-here_ends.true)

pub returns : goal.returns
returns c = simp (sym c.here_ends.ensures ∙ c.if-here_ends.false)
