-- The building call fixes its answer and the index; the values are laid after it.
use Rattle.lines_exports.proofs.Told.{told}
use Rattle.lines_exports.proofs.mihadrena_lines.Goals as goal

pub returns : goal.returns
returns c = let all = told _ _ c.build-a.ensures c.tell.ensures in record {
  value = all.0;
  values_after = all.1.0;
  index_after = all.1.1;
}
