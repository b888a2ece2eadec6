-- The turn of the byte begins an item with it (Moves: begun-on).
use native.Mathlib.Omega.{arith}
use Rattle.pieces_spots.proofs.Moves.{begun_fits, begun_on}
use Rattle.pieces_spots.proofs.moving.begin.Goals as goal

pub returns : goal.returns
returns c =
    let told = c.begun_by-f.ensures in
    let solid = told.begins (omega arith) in (
      begun_fits c.args.s c.args.buf.now c.args.piece.now c.requires (omega arith) c.begun_by-f.result (omega arith) solid told.few,
      begun_on c.args.s c.args.buf.now c.args.piece.now c.requires (omega arith) c.begun_by-f.result (omega arith) solid told.few,
    )
