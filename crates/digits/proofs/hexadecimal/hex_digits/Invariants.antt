use Rattle.digits.specs.Hex.{hex_digits}
use Prim.Native.Nat.{◌^◌, ◌<◌}
use mathlib.Core.Path.{◌≡◌}
use lib.ListN.{drop}
use Rattle.digits.proofs.hexadecimal.hex_digits.Given as goal

abbrev pub invariant-loop-i : goal.invariant-loop-i
invariant-loop-i l = (hex_digits l.from 0 (drop l.from l.t) ≡ hex_digits l.i l.v (drop l.i l.t)) × (l.v < 2 ^ 32)
