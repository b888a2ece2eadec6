-- The words are those past the last item, and the record stands in its place; no place comes with it (Ended).
use mathlib.Core.Path.{refl}
use Rattle.pieces.specs.declared.Got.TheVariants.{Item}
use Rattle.exports.proofs.Ended.{ends_so}
use Rattle.exports.proofs.quick.tell_last.Goals as goal

pub returns : goal.returns
returns c =
    ends_so _ (Item c.args.given) c.args.words.now _ c.args.item.now _ c.args.values.now _ _
    c.put_last.ensures
    (λ text. (c.put.ensures, c.put_values.ensures, refl))
