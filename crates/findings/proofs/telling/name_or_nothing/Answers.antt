-- The test is the definition's.
use mathlib.Core.Path.{sym, ◌∙◌}
use Rattle.findings.specs.Told.{name_or_nothing}
use Rattle.findings.proofs.telling.name_or_nothing.Goals as goal

pub returns-then-is_name : goal.returns-then-is_name
unfolding name_or_nothing
returns-then-is_name c = rw (sym c.is_name.ensures ∙ c.if-is_name.true) c.name_told.ensures

pub returns : goal.returns
unfolding name_or_nothing
returns c = rw (sym c.is_name.ensures ∙ c.if-is_name.false)
