use mathlib.Core.Path.{◌≡◌}
use mathlib.Core.Bool.{false}
use lib.ListN.{drop}
use Rattle.findings.specs.Slips.{swallows}
use Rattle.findings.proofs.swallowing.has_swallowed.Given as goal

abbrev pub invariant-loop-b : goal.invariant-loop-b
invariant-loop-b l = swallows l.fresh (drop l.b-index l.part) ≡ swallows false l.part
