-- The call below fixes its answer and the text; the value is laid after it.
use Rattle.items_writing_exports.proofs.Whole.{told}
use Rattle.items_writing_exports.proofs.mihadrena_write.Goals as goal

pub returns : goal.returns
returns c =
    told _ _ c.write.ensures
    c.answer-w.ensures.0 c.answer-w.ensures.1 c.put_value.ensures
