-- The tests of the definition, in its order.
use mathlib.Core.Path.{refl}
use Rattle.laws.specs.Quoted.{within}
use Rattle.byte_runs.proofs.classes.BlankByteClass.ends.Goals as goal

pub returns : goal.returns
unfolding within
returns c = refl
