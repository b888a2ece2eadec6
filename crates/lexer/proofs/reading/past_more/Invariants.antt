use mathlib.Core.Path.{◌≡◌}
use Prim.Native.Nat.{◌≤◌}
use lib.ListN.{drop}
use Rattle.chars.specs.Utf8.{chars}
use Rattle.lexer.specs.Reading.{start_from}
use Rattle.lexer.proofs.reading.past_more.Given as goal

abbrev pub invariant-loop : goal.invariant-loop
invariant-loop l = (l.from ≤ l.at) × (start_from l.at (chars (drop l.at l.source)) ≡ start_from l.from (chars (drop l.from l.source)))
