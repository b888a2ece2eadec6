-- The words say that the end was declared; no record is written, and no place comes with it (Ended).
use mathlib.Core.Path.{refl}
use Rattle.pieces.specs.declared.Got.TheVariants.{Finished}
use Rattle.exports.proofs.Ended.{ends_so}
use Rattle.exports.proofs.quick.tell_finished.Goals as goal

pub returns : goal.returns
returns c =
    λ i. ends_so _ Finished c.args.words.now _ i i c.args.values.now _ _ c.put_end.ensures
    (λ text. (refl, c.put_values.ensures, refl))
