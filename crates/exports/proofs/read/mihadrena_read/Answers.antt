-- The lexer's call fixes its answer and both memories; the values are laid after it.
use Rattle.exports.proofs.Whole.{told}
use Rattle.exports.proofs.read.mihadrena_read.Goals as goal

pub returns : goal.returns
returns c = let all =
    told _ _ c.read.ensures
    c.answer-w.ensures.0 c.answer-w.ensures.1 c.put_values.ensures in record {
      value = all.0;
      values_after = all.1.0;
      records_after = all.1.1.0;
      text_after = all.1.1.1;
    }
