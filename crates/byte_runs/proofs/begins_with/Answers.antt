-- std compares the elements pair by pair, as the definition does.
use mathlib.Core.Path.{◌∙◌}
use Rattle.laws.proofs.Compared.{begins_pairwise}
use Rattle.byte_runs.proofs.begins_with.Goals as goal

pub returns : goal.returns
returns c = c.starts_with.ensures.value ∙ begins_pairwise _ _
