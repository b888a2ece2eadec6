use Prim.Native.Nat.{◌+◌}
use mathlib.Core.Path.{◌≡◌}
use mathlib.Core.Bool.{false}
use Rattle.lines_calls.specs.Left.{left}
use Rattle.lines_calls.proofs.building.has_newline.Given as goal

abbrev pub invariant-loop-j : goal.invariant-loop-j
invariant-loop-j l = l.found ≡ false → left l.text l.at ≡ left l.text (l.at + l.j)
