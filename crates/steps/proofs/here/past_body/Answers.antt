-- The line's end is looked for once; a place that does not stand past it is left as it is.
use mathlib.Core.Path.{refl}
use native.Mathlib.Nat.{le_refl}
use Rattle.steps.proofs.here.past_body.Goals as goal

pub returns-then-from-start-lt-OPEN : goal.returns-then-from-start-lt-OPEN
returns-then-from-start-lt-OPEN c = (le_refl _, c.requires.1, λ report. refl)

pub returns-then-from-newline : goal.returns-then-from-newline
returns-then-from-newline c = (le_refl _, c.requires.1, λ report. refl)

pub past_line-requires : goal.past_line-requires
past_line-requires c = (c.find-newline.ensures, c.if-from-newline.false, c.requires.1)
