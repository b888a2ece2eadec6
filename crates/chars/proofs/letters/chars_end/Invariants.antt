use Prim.Native.Nat.{◌-◌}
use Rattle.chars.specs.Walk.{Walk}
use Rattle.chars.proofs.letters.chars_end.Given as goal

abbrev pub invariant-loop-i : goal.invariant-loop-i
invariant-loop-i l = Walk l.s l.until l.from l.i

abbrev pub decreases-loop-i : goal.decreases-loop-i
decreases-loop-i l = l.until - l.i
