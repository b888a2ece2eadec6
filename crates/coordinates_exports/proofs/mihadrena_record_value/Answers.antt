-- What the call answers is told.
use mathlib.Core.Path.{ap, ◌∙◌}
use Rattle.coordinates_exports.specs.Told.{number_of, value_or, place_or}
use Rattle.coordinates_exports.proofs.mihadrena_record_value.Goals as goal

pub returns : goal.returns
returns c =
    let e = c.record_value.ensures in
    (c.tell.ensures.0 ∙ ap number_of e, c.tell.ensures.1 ∙ ap (value_or _) e, c.tell.ensures.2 ∙ ap (place_or _) e)
