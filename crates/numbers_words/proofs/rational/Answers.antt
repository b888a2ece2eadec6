-- The figures are those of the two integers; there is no third.
use Rattle.numbers_words.proofs.Words.{real_is}
use Rattle.numbers_words.proofs.rational.Goals as goal

pub returns : goal.returns
returns c = real_is _ _ _ _ c.integer.ensures c.integer-2.ensures c.nothing.ensures
