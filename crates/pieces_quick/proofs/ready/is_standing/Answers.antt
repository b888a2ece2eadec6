-- Between items no item is held.
use native.Mathlib.Omega.{arith}
use Rattle.pieces_quick.proofs.Knows.{idle_stands}
use Rattle.pieces_quick.proofs.ready.is_standing.Goals as goal

pub returns-then-w-eq-IDLE : goal.returns-then-w-eq-IDLE
returns-then-w-eq-IDLE c = λ e. idle_stands _ (c.is_unheld.ensures e) (omega arith)
