-- The two turns do what passing the bytes does (TwoBytes).
use native.Mathlib.Omega.{arith}
use mathlib.Core.Path.{refl}
use lib.ListN.{length-set}
use Rattle.pieces_spots.proofs.TwoBytes.{pair_fits}
use Rattle.pieces_spots.proofs.pairs.pass_pair.Goals as goal

pub bounds-buf-len-2 : goal.bounds-buf-len-2
bounds-buf-len-2 c = simp length-set (omega (arith, c.requires.0.full, c.requires.1.room))

pub returns : goal.returns
returns c = (
  pair_fits c.args.s c.args.buf.now c.args.piece.now c.requires.0 c.requires.1.inside c.requires.1.room,
  c.requires.1.on c.args.buf.now c.requires.0,
  refl,
)
