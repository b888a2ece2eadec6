-- By whether anything was counted or written.
use mathlib.Core.Path.{◌∙◌}
use borrow.Author.Tests.{eq-eqb, ne_eqb}
use Rattle.lexer.proofs.whole.spot_past.Goals as goal

pub returns-then-now-before : goal.returns-then-now-before
returns-then-now-before c = c.stand.ensures ∙ simp (eq-eqb _ _ c.if-now-before.true)

pub returns : goal.returns
returns c = c.stand-2.ensures ∙ simp (ne_eqb _ _ c.if-now-before.false)
