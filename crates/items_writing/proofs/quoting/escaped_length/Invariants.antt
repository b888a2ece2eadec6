use Prim.Native.Nat.{◌*◌, ◌≤◌}
use mathlib.Core.Path.{◌≡◌}
use lib.ListN.{length}
use Rattle.items_writing.proofs.QuotedBytes.{front}
use Rattle.items_writing.proofs.quoting.escaped_length.Given as goal

abbrev pub invariant-loop-b : goal.invariant-loop-b
invariant-loop-b l = (l.b-index ≤ length l.t) × (l.n ≡ length (front l.mark l.t l.b-index)) × (l.n ≤ 2 * l.b-index)
