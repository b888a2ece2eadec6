-- What was counted so far and what is still to be written make up the whole text; it stops as soon as the limit is passed.
use native.Mathlib.Omega.{arith}
use Prim.Native.Nat.{◌+◌}
use mathlib.Core.Bool.{false}
use lib.ListN.{length}
use Rattle.items_writing.specs.Pieces.{onward}
use Rattle.items_writing.proofs.RecordLoops.{turn_fits, turn_size, none_left, measured_past, measured_all}
use Rattle.items_writing.proofs.measure.Goals as goal

pub loop-p-init : goal.loop-p-init
loop-p-init c = (omega arith, omega arith, omega arith)

pub taken-requires : goal.taken-requires
taken-requires c = (omega arith, c.requires)

pub piece_length-n-requires : goal.piece_length-n-requires
piece_length-n-requires c = c.taken.ensures.short

pub overflow_add-n : goal.overflow_add-n
overflow_add-n c = omega (arith, turn_fits c.taken.ensures c.piece_length-n.ensures)

pub returns-then-n-gt-LIMIT : goal.returns-then-n-gt-LIMIT
returns-then-n-gt-LIMIT c =
    measured_past (length
    (onward c.args.records.now c.args.source.now c.args.text.now false (c.taken.result.turn.last + 1))) c.if-n-gt-LIMIT.true
    (omega (
      arith,
      turn_size c.taken.ensures,
      c.piece_length-n.ensures,
    ))

pub overflow_add-p : goal.overflow_add-p
overflow_add-p c = omega (arith, c.taken.ensures.turn.inside)

pub loop-p-smaller : goal.loop-p-smaller
loop-p-smaller c = omega (arith, c.taken.ensures.turn.from, c.taken.ensures.turn.inside)

pub loop-p-preserved : goal.loop-p-preserved
loop-p-preserved c = (
  omega (arith, c.taken.ensures.turn.inside),
  omega arith,
  omega (
    arith,
    turn_size c.taken.ensures,
    c.piece_length-n.ensures,
  ),
)

pub returns : goal.returns
returns c =
    measured_all c.loop-p.invariant.1
    (omega (arith, none_left c.args.records.now c.args.source.now c.args.text.now c.loop-p.first c.loop-p.p (omega arith)))
