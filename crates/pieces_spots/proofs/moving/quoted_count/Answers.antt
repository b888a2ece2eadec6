-- Each run is that of the quotes (Runs).
use mathlib.Core.Path.{refl}
use borrow.Author.Tests.{eq-eqb, ne_eqb}
use Rattle.items.specs.declared.Quotes.TheVariants.{Double, Lines}
use Rattle.pieces_spots.proofs.Runs as runs
use Rattle.pieces_spots.proofs.moving.quoted_count.Goals as goal

pub returns-then-which-eq-DOUBLE : goal.returns-then-which-eq-DOUBLE
returns-then-which-eq-DOUBLE c = runs.quotes_kept _ _ _ _ refl Double (rw (eq-eqb _ _ c.if-which-eq-DOUBLE.true)) c.ascii_run.ensures

pub returns : goal.returns
returns c = runs.quotes_kept _ _ _ _ refl Lines (rw (ne_eqb _ _ c.if-which-eq-DOUBLE.false)) c.ascii_run-2.ensures
