use Prim.Native.Nat.{◌*◌}
use mathlib.Core.Path.{◌≡◌}
use lib.ListN.{length, drop}
use Rattle.lines.specs.Many.{answers}
use Rattle.lines_calls.specs.Left.{stored}
use Rattle.lines_calls.proofs.asking.put_answers.Given as goal

abbrev pub invariant-loop-k : goal.invariant-loop-k
invariant-loop-k l = (length l.found ≡ length l.initial.found) × (stored 0 (answers l.text l.index l.places) l.initial.found ≡ stored (2 * l.k) (answers l.text l.index (drop l.k l.places)) l.found)
