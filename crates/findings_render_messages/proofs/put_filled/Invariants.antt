use lib.ListN.{drop}
use Rattle.findings_render_messages.specs.Messages.{filled}
use Rattle.findings_render_parts.proofs.OneByOne.{Left}
use Rattle.findings_render_messages.proofs.put_filled.Given as goal

abbrev pub invariant-loop-b : goal.invariant-loop-b
invariant-loop-b l = Left l.quoted (filled l.t l.source (drop l.b-index l.text)) l.next l.out (filled l.t l.source l.text) l.at l.initial.out
