-- At the start of the text, in a first line and between items the end gives nothing more (Resting).
use native.Mathlib.Omega.{arith}
use Rattle.pieces_last.proofs.Resting.{opening_stays, between_stays}
use Rattle.pieces_last.proofs.closing.is_resting.Goals as goal

pub returns-then-w-eq0 : goal.returns-then-w-eq0
returns-then-w-eq0 c = λ e most. opening_stays _ (c.is_unheld.ensures e) c.in-0.is (omega arith)

pub returns-in_default : goal.returns-in_default
returns-in_default c = λ e most. between_stays _ (c.is_unheld-in_default.ensures e) most (omega arith)
