-- The bytes are those of the turn's last record, whose places are numbers of 32 bits.
use native.Mathlib.Omega.{arith}
use Prim.Native.Nat.{◌+◌, ◌*◌}
use mathlib.Core.Path.{ap}
use Rattle.items_writing.specs.declared.WriteWords.{WriteWords}
use Rattle.items_writing.proofs.RecordLoops.{turn_right, turn_taken}
use Rattle.items_writing.proofs.turning.taken.Goals as goal

pub turn_at-turn-requires : goal.turn_at-turn-requires
turn_at-turn-requires c = c.requires

pub words_at-w-requires : goal.words_at-w-requires
words_at-w-requires c = c.turn_at-turn.ensures.inside

pub body_of-requires : goal.body_of-requires
body_of-requires c = turn_right c.turn_at-turn.ensures c.words_at-w.ensures

pub returns : goal.returns
returns c =
    turn_taken c.turn_at-turn.ensures c.words_at-w.ensures c.body_of.ensures
    (omega (
      arith,
      ap (λ (u : WriteWords). u.past) c.words_at-w.ensures,
      c.shared_slice_known-1.given (c.turn_at-turn.result.last * 10 + 8),
    ))
    (omega (
      arith,
      ap (λ (u : WriteWords). u.«end») c.words_at-w.ensures,
      c.shared_slice_known-1.given (c.turn_at-turn.result.last * 10 + 3),
    ))
