-- The mode decides.
use native.Mathlib.Omega.{arith}
use borrow.Author.Tests.{lt-ltb, le-ltb}
use Rattle.pieces.specs.Calls.{open_of}
use Rattle.pieces_lent.proofs.opening.open.Goals as goal

pub returns-then-mode-gt-REPORT : goal.returns-then-mode-gt-REPORT
unfolding open_of
returns-then-mode-gt-REPORT c = simp (le-ltb c.args.mode 2 (omega arith), c.fresh_state.ensures)

pub returns : goal.returns
unfolding open_of
returns c = simp (lt-ltb c.args.mode 2 (omega arith), c.fresh_state-2.ensures)
