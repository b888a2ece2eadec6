-- A double quote closes a string, a vertical line an identifier (Runs).
use native.Mathlib.Omega.{arith}
use borrow.Author.Tests.{ne_eqb}
use Rattle.pieces_spots.proofs.Runs as runs
use Rattle.pieces_spots.proofs.moving.closes_quotes.Goals as goal

pub returns-then-b-eq34 : goal.returns-then-b-eq34
returns-then-b-eq34 c = λ h raw. runs.quote_closes _ _ _ _ (omega arith) (omega arith) (omega arith)

pub returns-then-which-eq-DOUBLE : goal.returns-then-which-eq-DOUBLE
returns-then-which-eq-DOUBLE c = λ h. absurd (omega arith)

pub returns-then-b-eq124 : goal.returns-then-b-eq124
returns-then-b-eq124 c = λ h raw. runs.line_closes _ _ _ _ (omega arith) (rw (ne_eqb _ _ c.if-which-eq-DOUBLE.false)) (omega arith)

pub returns : goal.returns
returns c = λ h. absurd (omega arith)
