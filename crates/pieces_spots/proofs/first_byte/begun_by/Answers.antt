-- A small letter is a row of Begins.
use native.Mathlib.Omega.{arith}
use mathlib.Core.Path.{refl}
use Rattle.pieces_spots.proofs.Begins as begins
use Rattle.pieces_spots.proofs.first_byte.begun_by.Goals as goal

pub returns-in-97-to-122 : goal.returns-in-97-to-122
returns-in-97-to-122 c =
    let b = c.args.b in
    begins.solid_told _ b 14 refl (omega arith) (omega arith) (begins.letter b c.in-97-to-122.if-b-lt97-own.false c.in-97-to-122.if-b-lt123-own.true)
