use Prim.Native.Nat.{◌-◌}
use lib.ListN.{replicate}
use Rattle.findings_render_parts.proofs.OneByOne.{Left}
use Rattle.findings_render_parts.proofs.laying.put_run.Given as goal

abbrev pub invariant-loop : goal.invariant-loop
invariant-loop l = Left l.quoted (replicate (l.n - l.counter) l.b) l.next l.out (replicate l.n l.b) l.at l.initial.out
