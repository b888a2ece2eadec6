use Prim.Native.Nat.{◌-◌, ◌≤◌}
use lib.ListN.{length, drop}
use Rattle.findings_render_parts.specs.Shown.{walked}
use Rattle.findings_render_parts.proofs.OneByOne.{Left}
use Rattle.findings_render_parts.proofs.characters.put_walked.Given as goal

abbrev pub invariant-loop-i : goal.invariant-loop-i
invariant-loop-i g l =
    (l.i ≤ length l.t)
    × Left (g.W.Walker.quoted l.walker) (walked (g.W.Walker.made l.walker) 0 (drop l.i l.t)) l.next l.out (walked (g.W.Walker.made l.walker) 0 l.t) l.at l.initial.out

abbrev pub decreases-loop-i : goal.decreases-loop-i
decreases-loop-i g l = length l.t - l.i
