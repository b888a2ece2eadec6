-- Where both integers are there, where the second is not, and where the first is not.
use Rattle.numbers.proofs.RealParts.{rational_is, rational_no, rational_not}
use mathlib.Core.Path.{◌∙◌}
use Rattle.numbers.proofs.reals.rational.Goals as goal

pub returns-in_err-n : goal.returns-in_err-n
returns-in_err-n c = c.from_residual.ensures ∙ rational_not _ _ c.in_err-n.was

pub returns-in_err-d : goal.returns-in_err-d
returns-in_err-d c = c.from_residual-in_err-d.ensures ∙ rational_no _ _ _ c.in_ok-n.was c.in_err-d.was

pub returns : goal.returns
returns c = rational_is _ _ _ _ c.in_ok-n.was c.in_ok-d.was
