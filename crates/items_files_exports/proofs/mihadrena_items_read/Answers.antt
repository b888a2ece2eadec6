-- The call below fixes its answer and the memory; the value is laid after it.
use mathlib.Core.Path.{◌∙◌}
use Rattle.items_files_exports.proofs.Whole.{told}
use Rattle.items_files_exports.proofs.mihadrena_items_read.Goals as goal

pub returns : goal.returns
returns c = let all =
    told _ _ c.read.ensures
    (c.give.ensures.number ∙ c.tell_read.ensures.0) c.tell_read.ensures.1 c.give.ensures.value in record {
      value = all.0;
      values_after = all.1.0;
      records_after = all.1.1;
    }
