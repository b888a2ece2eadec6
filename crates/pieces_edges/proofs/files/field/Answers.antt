-- The part from past the tabs up to the next tab that is found.
use Rattle.std.proofs.Common.{◌∙◌}
use Rattle.pieces_edges.proofs.files.field.Goals as goal

pub returns : goal.returns
returns c = c.part.ensures ∙ rw (c.find.ensures, c.past_tabs-from.ensures)
