-- The call below fixes its answer and the nodes; the value is laid after it.
use Rattle.nested_exports.proofs.Whole.{told}
use Rattle.nested_exports.proofs.mihadrena_nest.Goals as goal

pub returns : goal.returns
returns c =
    let all = told _ _ c.build.ensures c.answer-w.ensures.0 c.answer-w.ensures.1 c.put_value.ensures in
    record { value = all.0; values_after = all.1.0; nodes_after = all.1.1 }
