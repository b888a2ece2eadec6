-- The question fixes its answer and the memory; the values are laid after it.
use Rattle.lines_exports.proofs.Told.{told}
use Rattle.lines_exports.proofs.mihadrena_locate_all.Goals as goal

pub returns : goal.returns
returns c = let all = told _ _ c.locate_all-a.ensures c.tell.ensures in record {
  value = all.0;
  values_after = all.1.0;
  found_after = all.1.1;
}
