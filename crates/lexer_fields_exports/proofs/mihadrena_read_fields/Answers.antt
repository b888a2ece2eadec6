-- The call below fixes its answer and three memories; the answer is told after it.
use Rattle.lexer_fields_exports.specs.Told.{fields_left}
use Rattle.lexer_fields_exports.proofs.Told.{call_told}
use Rattle.lexer_fields_exports.proofs.mihadrena_read_fields.Goals as goal

pub returns : goal.returns
unfolding fields_left
returns c =
    call_told _ _ c.read_fields-a.ensures c.tell.ensures.0 c.tell.ensures.1
