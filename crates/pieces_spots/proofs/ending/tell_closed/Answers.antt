-- The quotes tell which (Ends).
use native.Mathlib.Omega.{arith}
use mathlib.Core.Path.{refl}
use borrow.Author.Tests.{ne_eqb}
use Rattle.pieces_spots.proofs.Ends as ends
use Rattle.pieces_spots.proofs.ending.tell_closed.Goals as goal

pub returns-then-which-eq-DOUBLE : goal.returns-then-which-eq-DOUBLE
returns-then-which-eq-DOUBLE c = λ detail b.
    let a = c.args in
    ends.string_ends 25 a.which detail b a.at a.raw.now refl (omega arith) c.tell_string.result c.tell_string.ensures

pub returns : goal.returns
returns c = λ detail b. c.tell_lined.ensures _ detail b (rw (ne_eqb _ _ c.if-which-eq-DOUBLE.false))
