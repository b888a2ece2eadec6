-- The figures are the digits before the dot, those after it and those of the exponent.
use Rattle.numbers_words.proofs.Words.{real_is}
use Rattle.numbers_words.proofs.decimal.Goals as goal

pub returns : goal.returns
returns c = real_is _ _ _ _ c.placed.ensures c.placed-2.ensures c.placed-3.ensures
