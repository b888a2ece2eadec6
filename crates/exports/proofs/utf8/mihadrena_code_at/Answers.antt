-- Each arm answers what `code_or` says of the answer of `decode_at` that leads into it.
use mathlib.Core.Path.{ap, sym, ◌∙◌}
use Rattle.exports.specs.Utf8.{code_or}
use Rattle.exports.proofs.utf8.mihadrena_code_at.Goals as goal

pub returns-in-Char : goal.returns-in-Char
returns-in-Char c = ap code_or (sym c.in-Char.is ∙ c.decode_at.ensures)

pub returns-in-Bad : goal.returns-in-Bad
returns-in-Bad c = ap code_or (sym c.in-Bad.is ∙ c.decode_at.ensures)

pub returns-in-Cut : goal.returns-in-Cut
returns-in-Cut c = ap code_or (sym c.in-Cut.is ∙ c.decode_at.ensures)

pub returns-in-End : goal.returns-in-End
returns-in-End c = ap code_or (sym c.in-End.is ∙ c.decode_at.ensures)
