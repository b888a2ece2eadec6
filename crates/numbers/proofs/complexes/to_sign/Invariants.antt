use Rattle.numbers.specs.Grammar.{to_sign}
use Prim.Native.Nat.{◌+◌, ◌≤◌, max}
use mathlib.Core.Path.{◌≡◌}
use lib.ListN.{length, drop}
use Rattle.numbers.proofs.complexes.to_sign.Given as goal

abbrev pub invariant-loop-i : goal.invariant-loop-i
invariant-loop-i l = (l.from + to_sign l.skip (drop l.from l.t) ≡ l.i + to_sign l.pass (drop l.i l.t)) × (l.i ≤ max l.from (length l.t))
