use mathlib.Core.Path.{◌≡◌}
use lib.ListN.{length, take}
use Rattle.laws.specs.Lent.{written}
use Rattle.escapes.proofs.put_run.Given as goal

abbrev pub invariant-loop-i : goal.invariant-loop-i
invariant-loop-i l = (length l.free ≡ length l.initial.free) × (l.free ≡ written (take l.i l.run) l.initial.free)
