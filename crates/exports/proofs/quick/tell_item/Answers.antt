-- The spot stands in the words and the record in its place; no place comes with it (Spotted).
use mathlib.Core.Path.{refl}
use Rattle.pieces.specs.declared.Got.TheVariants.{Item}
use Rattle.exports.proofs.Spotted.{tells_so}
use Rattle.exports.proofs.quick.tell_item.Goals as goal

pub returns : goal.returns
returns c =
    tells_so c.args.told.spot c.args.told.depth (Item c.args.told.item) c.args.words.now _ c.args.item.now _ c.args.values.now _ _
    c.put_spot.ensures
    (λ text. (c.put.ensures, c.put_values.ensures, refl))
