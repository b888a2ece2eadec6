use Prim.Native.Nat.{◌-◌}
use mathlib.Core.Path.{◌≡◌}
use lib.ListN.{length, drop}
use Rattle.chars.specs.Utf8.{chars}
use Rattle.lexer.specs.Reading.{start_from}
use Rattle.lexer.proofs.reading.consume_whitespace.Given as goal

abbrev pub invariant-loop-code : goal.invariant-loop-code
invariant-loop-code l = start_from l.at (chars (drop l.at l.source)) ≡ start_from l.from (chars (drop l.from l.source))

abbrev pub decreases-loop-code : goal.decreases-loop-code
decreases-loop-code l = length l.source - l.at
