-- Each arm answers what `good_bytes` says of the answer of `first_bad` that leads into it.
use mathlib.Core.Path.{ap, sym, ◌∙◌}
use Rattle.exports.specs.Utf8.{good_bytes}
use Rattle.exports.proofs.utf8.mihadrena_good_bytes.Goals as goal

pub returns-in-None : goal.returns-in-None
returns-in-None c = ap (good_bytes _) (sym c.in-None.is ∙ c.first_bad.ensures)

pub returns-in-Some : goal.returns-in-Some
returns-in-Some c = ap (good_bytes _) (sym c.in-Some.is ∙ c.first_bad.ensures)
