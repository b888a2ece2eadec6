-- The store and the fresh state.
use mathlib.Core.Path.{ap}
use Rattle.lines.specs.Pieces.{fed}
use Rattle.lines_calls.proofs.pieces.open.Goals as goal

pub returns : goal.returns
returns c = rw c.between.ensures (ap (λ m. fed _ m) c.store.ensures)
