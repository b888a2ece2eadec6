use mathlib.Core.Path.{◌≡◌}
use lib.ListN.{length, take}
use Rattle.laws.specs.Lent.{written}
use Rattle.pieces_giving.proofs.give.copy_all.Given as goal

abbrev pub invariant-loop-i : goal.invariant-loop-i
invariant-loop-i l = (length l.text ≡ length l.initial.text) × (l.text ≡ written (take l.i l.raw) l.initial.text)
