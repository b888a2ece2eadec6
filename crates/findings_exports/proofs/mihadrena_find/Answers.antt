-- The call below fixes its answer and two memories; the answer is told after it.
use Rattle.findings_exports.proofs.Told.{call_told}
use Rattle.findings_exports.proofs.mihadrena_find.Goals as goal

pub returns : goal.returns
returns c =
    call_told _ _ _ _ c.find-a.ensures c.tell.ensures.0 c.tell.ensures.1
