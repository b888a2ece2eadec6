use mathlib.Core.Path.{◌≡◌}
use Prim.Native.Nat.{◌-◌, ◌/◌, ◌≤◌}
use lib.ListN.{length}
use Rattle.findings.specs.Rows.{first_from}
use Rattle.findings.specs.Slips.{is_swallower}
use Rattle.findings.proofs.swallowing.first_swallower.Given as goal

abbrev pub invariant-loop-p : goal.invariant-loop-p
invariant-loop-p l = (l.p ≤ length l.rows / 10) × (first_from (is_swallower l.source l.rows) (length l.rows / 10) 0 ≡ first_from (is_swallower l.source l.rows) (length l.rows / 10 - l.p) l.p)
