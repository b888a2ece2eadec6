use Rattle.std.proofs.Common.{◌≡◌, length}
use Rattle.pieces_edges.proofs.Newlines.{replaced}
use Rattle.pieces_edges.proofs.files.newlines.Given as goal

abbrev pub invariant-loop-i : goal.invariant-loop-i
invariant-loop-i l = (length l.source ≡ length l.initial.source) × (l.source ≡ replaced l.i l.initial.source)
