use Prim.Native.Nat.{◌<◌}
use mathlib.Core.Path.{◌≡◌}
use lib.ListN.{length}
use Rattle.chars.specs.Wide.{Passed}
use Rattle.items_writing.proofs.whole.ascii_end.Given as goal

abbrev pub invariant-loop-i : goal.invariant-loop-i
invariant-loop-i l = Passed l.t l.from l.i × (length l.t < l.i → l.i ≡ l.from)
