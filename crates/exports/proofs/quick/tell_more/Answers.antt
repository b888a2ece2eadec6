-- The spot stands in the words; no record is written, and no place comes with it (Spotted).
use mathlib.Core.Path.{refl}
use Rattle.pieces.specs.declared.Got.TheVariants.{More}
use Rattle.exports.proofs.Spotted.{tells_so}
use Rattle.exports.proofs.quick.tell_more.Goals as goal

pub returns : goal.returns
returns c =
    λ i. tells_so c.args.s c.args.depth More c.args.words.now _ i i c.args.values.now _ _
    c.put_spot.ensures (λ text. (refl, c.put_values.ensures, refl))
