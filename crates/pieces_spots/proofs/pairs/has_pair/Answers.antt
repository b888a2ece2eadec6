-- Below the letters there are escapes alone.
use Rattle.laws.proofs.Choice.{no_yes}
use Rattle.pieces_spots.proofs.pairs.has_pair.Goals as goal

pub returns-then-piece-i : goal.returns-then-piece-i
returns-then-piece-i c = no_yes
