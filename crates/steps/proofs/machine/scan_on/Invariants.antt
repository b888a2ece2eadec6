use Prim.Native.Nat.{◌-◌, ◌≤◌}
use mathlib.Core.Path.{◌≡◌}
use lib.ListN.{length}
use Rattle.items.specs.Machine.{depth_of}
use Rattle.steps.specs.Scan.{answer}
use Rattle.steps.proofs.machine.scan_on.Given as goal

abbrev pub invariant-loop-at : goal.invariant-loop-at
invariant-loop-at l =
    (l.at ≤ length l.s) × (l.start ≤ l.at) × (depth_of l.phase ≤ l.at) × (answer l.s l.report l.start l.initial.phase l.initial.at ≡ answer l.s l.report l.start l.phase l.at)

abbrev pub decreases-loop-at : goal.decreases-loop-at
decreases-loop-at l = length l.s - l.at
