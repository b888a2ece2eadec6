use Prim.Native.Nat.{◌-◌}
use mathlib.Core.Path.{◌≡◌}
use mathlib.Core.Bool.{false}
use lib.ListN.{length, drop}
use Rattle.findings_rows.specs.Mended.{closing}
use Rattle.findings_rows.proofs.slips.past_quote.Given as goal

abbrev pub invariant-loop-at : goal.invariant-loop-at
invariant-loop-at l = closing l.quote false l.from (drop l.from l.source) ≡ closing l.quote l.escaped l.at (drop l.at l.source)

abbrev pub decreases-loop-at : goal.decreases-loop-at
decreases-loop-at l = length l.source - l.at
