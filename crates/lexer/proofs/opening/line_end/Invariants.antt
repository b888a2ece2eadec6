use Prim.Native.Nat.{◌-◌}
use mathlib.Core.Path.{◌≡◌}
use lib.ListN.{length, drop}
use Rattle.chars.specs.Utf8.{chars}
use Rattle.lexer.specs.Opening.{line_end}
use Rattle.lexer.proofs.opening.line_end.Given as goal

abbrev pub invariant-loop-code : goal.invariant-loop-code
invariant-loop-code l = line_end l.at (chars (drop l.at l.source)) ≡ line_end l.from (chars (drop l.from l.source))

abbrev pub decreases-loop-code : goal.decreases-loop-code
decreases-loop-code l = length l.source - l.at
