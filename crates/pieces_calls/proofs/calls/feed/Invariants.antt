use Prim.Native.Nat.{◌-◌, ◌≤◌}
use mathlib.Core.Path.{◌≡◌}
use lib.ListN.{length, drop}
use Rattle.pieces.specs.Calls.{feed_of}
use Rattle.pieces_giving.specs.Answers.{state_of}
use Rattle.pieces_turns.specs.Inner.{Sound}
use Rattle.pieces_calls.proofs.calls.feed.Given as goal

abbrev pub invariant-loop-i : goal.invariant-loop-i
invariant-loop-i l =
    (l.i ≤ length l.piece) × Sound l.marks l.buf l.text × (l.text ≡ l.initial.text) × (feed_of (state_of l.marks l.buf) (drop l.i l.piece) l.i ≡ feed_of (state_of l.initial.marks l.initial.buf) l.piece 0)

abbrev pub decreases-loop-i : goal.decreases-loop-i
decreases-loop-i l = length l.piece - l.i
