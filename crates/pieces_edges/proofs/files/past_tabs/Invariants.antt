use Rattle.std.proofs.Common.{◌≡◌, ◌+◌, drop}
use Rattle.pieces_edges.specs.Fields.{past_tabs}
use Rattle.pieces_edges.proofs.files.past_tabs.Given as goal

abbrev pub invariant-loop-i : goal.invariant-loop-i
invariant-loop-i l = l.i + past_tabs l.left (drop l.i l.line) ≡ past_tabs l.tabs l.line
