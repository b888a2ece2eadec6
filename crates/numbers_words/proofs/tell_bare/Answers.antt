-- Its words are those of no real, twice.
use Rattle.numbers_words.proofs.Words.{joined_is, served_as}
use Rattle.numbers_words.proofs.tell_bare.Goals as goal

pub returns : goal.returns
returns c =
    served_as _ _ (joined_is 0 c.no_real.ensures c.no_real-2.ensures) c.tell_served.ensures
