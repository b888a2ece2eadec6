-- The turn of the byte leads the item to its next phase (Moves: closed_on).
use native.Mathlib.Omega.{arith}
use mathlib.Core.Path.{sym}
use lib.Seq.{length-take-le}
use Rattle.pieces_spots.proofs.Moves.{closed_fits, closed_on}
use Rattle.pieces_spots.proofs.moving.close.Goals as goal

pub slice_bounds-closes-end-2 : goal.slice_bounds-closes-end-2
slice_bounds-closes-end-2 c =
    sym (length-take-le c.args.s.len c.args.buf.now (omega (arith, c.requires.small, c.requires.full)))

pub returns : goal.returns
returns c =
    let told = c.closes-f.ensures (omega arith) in (
      closed_fits c.args.s c.args.buf.now c.args.piece.now c.requires c.closes-f.result (omega arith) (omega arith) told,
      closed_on c.args.s c.args.buf.now c.args.piece.now c.requires c.closes-f.result (omega arith) (omega arith) told,
    )
