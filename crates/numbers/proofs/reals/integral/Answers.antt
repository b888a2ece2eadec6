-- Where the integer is there, and where it is not.
use Rattle.numbers.proofs.RealParts.{integral_is, integral_no}
use mathlib.Core.Path.{◌∙◌}
use Rattle.numbers.proofs.reals.integral.Goals as goal

pub returns-in_err-n : goal.returns-in_err-n
returns-in_err-n c = c.from_residual.ensures ∙ integral_no _ c.in_err-n.was

pub returns : goal.returns
returns c = integral_is _ _ c.in_ok-n.was
