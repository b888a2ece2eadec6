-- Where both reals are there, where the second is not, and where the first is not.
use Rattle.numbers.proofs.Cuts.{polar_is, polar_no, polar_not}
use mathlib.Core.Path.{◌∙◌}
use Rattle.numbers.proofs.complexes.polar.Goals as goal

pub returns-in_err-a : goal.returns-in_err-a
returns-in_err-a c = c.from_residual.ensures ∙ polar_not _ _ c.in_err-a.was

pub returns-in_err-b : goal.returns-in_err-b
returns-in_err-b c = c.from_residual-in_err-b.ensures ∙ polar_no _ _ _ c.in_ok-a.was c.in_err-b.was

pub returns : goal.returns
returns c = polar_is _ _ _ _ c.in_ok-a.was c.in_ok-b.was
