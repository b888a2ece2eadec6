-- The end fixes its answer; the value is laid after it.
use Rattle.lines_exports.proofs.Told.{told_answer}
use Rattle.lines_exports.proofs.mihadrena_lines_end.Goals as goal

pub returns : goal.returns
returns c = let all = told_answer _ _ c.end-a.ensures c.tell.ensures in record {
  value = all.0;
  values_after = all.1;
}
