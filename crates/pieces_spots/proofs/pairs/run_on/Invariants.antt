use Prim.Native.Nat.{◌-◌}
use lib.ListN.{length}
use Rattle.pieces_spots.specs.Spots.{Fits, Onward}
use Rattle.pieces_spots.proofs.pairs.run_on.Given as goal

abbrev pub invariant-loop-ran : goal.invariant-loop-ran
invariant-loop-ran l = Fits l.t l.buf l.piece × Onward l.initial.t l.initial.buf l.t l.buf l.piece

abbrev pub decreases-loop-ran : goal.decreases-loop-ran
decreases-loop-ran l = length l.piece - l.t.i
