-- The question fixes its answer; the values are laid after it.
use Rattle.lines_exports.proofs.Told.{told_place_lem}
use Rattle.lines_exports.proofs.mihadrena_locate.Goals as goal

pub returns : goal.returns
returns c = let all =
    told_place_lem _ _ c.locate-r.ensures c.located_number.ensures
    c.located_first.ensures c.located_second.ensures c.put_values.ensures in record {
      value = all.0;
      values_after = all.1;
    }
