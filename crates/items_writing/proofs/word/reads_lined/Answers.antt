-- The machine over the text after its first byte, and what the text turned out to be.
use mathlib.Core.Path.{sym, ap, ◌∙◌}
use native.Mathlib.Omega.{arith}
use Rattle.items_writing.specs.Decide.{lines_as}
use Rattle.items_writing.proofs.word.reads_lined.Goals as goal

pub stand_on-requires : goal.stand_on-requires
stand_on-requires c = (c.requires, omega arith)

pub returns-in-Some : goal.returns-in-Some
returns-in-Some c = c.is_lined.ensures ∙ ap lines_as (sym c.in-Some.is ∙ c.stand_on.ensures)

pub returns-in-None : goal.returns-in-None
returns-in-None c = ap lines_as (sym c.in-None.is ∙ c.stand_on.ensures)
