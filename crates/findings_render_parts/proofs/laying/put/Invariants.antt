use lib.ListN.{drop}
use Rattle.findings_render_parts.proofs.OneByOne.{Left}
use Rattle.findings_render_parts.proofs.laying.put.Given as goal

abbrev pub invariant-loop-b : goal.invariant-loop-b
invariant-loop-b l = Left l.quoted (drop l.b-index l.text) l.next l.out l.text l.at l.initial.out
