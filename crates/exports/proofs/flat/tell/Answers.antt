-- Each step writes what `gives` has for its part of the memory, and leaves the parts of the others.
use Rattle.exports.proofs.Left.{left_is, values_are}
use Rattle.exports.proofs.flat.tell.Goals as goal

pub returns : goal.returns
returns c =
    λ buf text old. left_is (c.number.ensures text) c.put_words.ensures
    (c.put_item.ensures text)
    (values_are _ _ c.put_values.ensures (c.place.ensures text))
