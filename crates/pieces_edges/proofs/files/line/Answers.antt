-- The part up to the newline that is found.
use Rattle.std.proofs.Common.{◌∙◌}
use Rattle.pieces_edges.proofs.files.line.Goals as goal

pub returns : goal.returns
returns c = c.part.ensures ∙ rw c.find.ensures
