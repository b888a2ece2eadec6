-- The definition's two tests.
use mathlib.Core.Path.{◌≡◌, refl}
use mathlib.Core.Bool.{Bool, true, false, not, ◌&&◌}
use lib.Dec.{eqb}
use Rattle.std.specs.Prelude.{if◌then◌else◌}
use Rattle.escapes.proofs.elements.SpaceByteClass.ends.Goals as goal

pub returns : goal.returns
returns c = go (eqb c.args.c 32) (eqb c.args.c 9)
  where
    go : (x y : Bool) → (not x && not y) ≡ not (if x then true else y)
    go true y = refl
    go false y = refl
