use mathlib.Core.Bool.{◌&&◌}
use Rattle.std.proofs.Common.{◌≡◌, drop}
use Rattle.pieces_cuttings.specs.Inner.{is_unwritten}
use Rattle.pieces_cuttings.proofs.noting.marked.Given as goal

abbrev pub invariant-loop-byte : goal.invariant-loop-byte
invariant-loop-byte l = (l.all && is_unwritten (drop l.byte-index l.text)) ≡ is_unwritten l.text
