-- Each arm answers what `next_or` says of the answer of `decode_at` that leads into it.
use mathlib.Core.Path.{ap, sym, ◌∙◌}
use Rattle.exports.specs.Utf8.{next_or}
use Rattle.exports.proofs.utf8.mihadrena_next_at.Goals as goal

pub returns-in-Char : goal.returns-in-Char
returns-in-Char c = ap (next_or _) (sym c.in-Char.is ∙ c.decode_at.ensures)

pub returns-in-Bad : goal.returns-in-Bad
returns-in-Bad c = ap (next_or _) (sym c.in-Bad.is ∙ c.decode_at.ensures)

pub returns-in-Cut : goal.returns-in-Cut
returns-in-Cut c = ap (next_or _) (sym c.in-Cut.is ∙ c.decode_at.ensures)

pub returns-in-End : goal.returns-in-End
returns-in-End c = ap (next_or _) (sym c.in-End.is ∙ c.decode_at.ensures)
