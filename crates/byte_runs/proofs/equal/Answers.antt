-- std compares the elements pair by pair, as the definition does.
use mathlib.Core.Path.{◌∙◌}
use Rattle.laws.proofs.Compared.{same_pairwise}
use Rattle.byte_runs.proofs.equal.Goals as goal

pub returns : goal.returns
returns c = c.eq.ensures ∙ same_pairwise _ _
