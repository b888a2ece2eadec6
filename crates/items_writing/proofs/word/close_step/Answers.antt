-- The end of the text is `finish`; a space is one step more.
use mathlib.Core.Path.{sym, ◌∙◌}
use native.Mathlib.Omega.{arith}
use native.Mathlib.Nat.{le_refl}
use Rattle.laws.specs.Quoted.{code}
use Rattle.chars.proofs.Width.{width_le}
use Rattle.items_writing.proofs.WordTurns.{close_last, close_eat, close_stop}
use Rattle.items_writing.proofs.word.close_step.Goals as goal

pub returns-then-last : goal.returns-then-last
returns-then-last c = close_last _ _ _ _ c.if-last.true c.finish.ensures

pub step-requires : goal.step-requires
step-requires c = (le_refl _, c.requires, omega (arith, width_le (code " ")))

pub returns-in-Eat : goal.returns-in-Eat
returns-in-Eat c = close_eat _ _ _ _ _ c.if-last.false (sym c.step.ensures ∙ c.in-Eat.is)

pub returns-in-Stop : goal.returns-in-Stop
returns-in-Stop c = close_stop _ _ _ _ _ c.if-last.false (sym c.step.ensures ∙ c.in-Stop.is)
