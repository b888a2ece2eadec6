use Prim.Native.Nat.{◌+◌, ◌-◌, ◌≤◌}
use mathlib.Core.Path.{◌≡◌}
use lib.ListN.{drop}
use Rattle.chars.specs.Utf8.{sequences}
use Rattle.lines.specs.Place.{column}
use Rattle.lines_calls.proofs.asking.column_at.Given as goal

abbrev pub invariant-loop-at : goal.invariant-loop-at
invariant-loop-at l = (l.n ≤ l.at + 1) × (column l.place l.n (sequences 0 l.at (drop l.at l.text)) ≡ column l.place 1 (sequences 0 l.from (drop l.from l.text)))

abbrev pub decreases-loop-at : goal.decreases-loop-at
decreases-loop-at l = l.place - l.at
