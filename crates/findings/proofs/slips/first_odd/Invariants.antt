use mathlib.Core.Path.{◌≡◌}
use Prim.Native.Nat.{◌-◌, ◌≤◌}
use lib.ListN.{length}
use Rattle.chars.specs.Utf8.{sequences}
use Rattle.findings.specs.Slips.{first_odd}
use Rattle.findings.proofs.OddNames.{odd_from}
use Rattle.findings.proofs.slips.first_odd.Given as goal

abbrev pub invariant-loop-i : goal.invariant-loop-i
invariant-loop-i l = (l.i ≤ length l.part) × (odd_from l.part l.a l.i ≡ first_odd (sequences 0 l.a l.part))

abbrev pub decreases-loop-i : goal.decreases-loop-i
decreases-loop-i l = length l.part - l.i
