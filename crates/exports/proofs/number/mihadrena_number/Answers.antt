-- The answer that the number call gives is told.
use Rattle.numbers_words.proofs.Words.{told_of}
use Rattle.exports.proofs.number.mihadrena_number.Goals as goal

pub returns : goal.returns
returns c = told_of _ c.number.ensures c.tell.ensures
