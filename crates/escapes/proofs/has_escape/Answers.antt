-- There is an escape exactly if the first backslash stands in the text.
use Rattle.escapes.proofs.Cases.{escape_found}
use Rattle.escapes.proofs.has_escape.Goals as goal

pub returns : goal.returns
returns c = escape_found c.args.raw.now _ c.find.ensures
