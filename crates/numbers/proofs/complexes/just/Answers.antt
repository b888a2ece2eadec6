-- Where the real is there, and where it is not.
use Rattle.numbers.proofs.Cuts.{just_is, just_no}
use mathlib.Core.Path.{◌∙◌}
use Rattle.numbers.proofs.complexes.just.Goals as goal

pub returns-in_err-a : goal.returns-in_err-a
returns-in_err-a c = c.from_residual.ensures ∙ just_no _ c.in_err-a.was

pub returns : goal.returns
returns c = just_is _ _ c.in_ok-a.was
