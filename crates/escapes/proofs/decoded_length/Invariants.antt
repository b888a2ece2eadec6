use Prim.Native.Nat.{◌-◌}
use lib.ListN.{length, drop}
use Rattle.items.specs.Meaning.{unescape}
use Rattle.escapes.proofs.Laying.{Reading}
use Rattle.escapes.proofs.decoded_length.Given as goal

abbrev pub invariant-loop-i : goal.invariant-loop-i
invariant-loop-i l = Reading l.k l.raw (unescape l.k (drop l.from l.raw)) l.n l.i

abbrev pub decreases-loop-i : goal.decreases-loop-i
decreases-loop-i l = length l.raw - l.i
