use mathlib.Core.Path.{◌≡◌}
use lib.ListN.{drop}
use Rattle.chars.specs.Utf8.{front, placed}
use Rattle.chars.specs.Machine.{reads}
use Rattle.chars.proofs.decode.decode_bytes.Given as goal

abbrev pub invariant-loop-i : goal.invariant-loop-i
invariant-loop-i l = reads l.t l.i (drop l.i l.s) ≡ placed l.at (front (drop l.at l.s))
