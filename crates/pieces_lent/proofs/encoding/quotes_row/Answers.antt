-- The row with the number of the quotes.
use mathlib.Core.Path.{◌∙◌}
use Rattle.pieces_lent.proofs.encoding.quotes_row.Goals as goal

pub returns : goal.returns
returns c = c.row.ensures ∙ simp c.quotes_code.ensures
