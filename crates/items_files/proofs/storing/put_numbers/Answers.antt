-- The groups of the numbers passed lie in the memory (`Laying`).
use native.Mathlib.Omega.{arith}
use Rattle.laws.proofs.Lent.{length_part}
use Rattle.items_files.proofs.Laid.{laying_start, laying_room, laying_length, laying_turn, laying_end}
use Rattle.items_files.proofs.storing.put_numbers.Goals as goal

pub loop-n-init : goal.loop-n-init
loop-n-init c = laying_start c.args.ns c.args.out.now

pub slice_bounds-put_number-count : goal.slice_bounds-put_number-count
slice_bounds-put_number-count c =
    omega (arith, laying_room c.args.ns c.requires.1 c.loop-n.invariant (omega arith))

pub slice_bounds-put_number-start : goal.slice_bounds-put_number-start
slice_bounds-put_number-start c =
    omega (arith, laying_room c.args.ns c.requires.1 c.loop-n.invariant (omega arith))

pub put_number-at-requires : goal.put_number-at-requires
put_number-at-requires c =
    omega (
      arith,
      laying_room c.args.ns c.requires.1 c.loop-n.invariant (omega arith),
      length_part c.loop-n.out c.loop-n.at,
    )

pub overflow_add-at : goal.overflow_add-at
overflow_add-at c =
    omega (
      arith,
      c.put_number-at.ensures.0,
      laying_room c.args.ns c.requires.1 c.loop-n.invariant (omega arith),
      laying_length c.args.ns c.requires.1 c.loop-n.invariant,
    )

pub loop-n-preserved : goal.loop-n-preserved
loop-n-preserved c =
    laying_turn c.args.ns c.requires.1 c.loop-n.invariant (omega arith)
    c.put_number-at.ensures.0 c.put_number-at.ensures.1

pub shape_of-out : goal.shape_of-out
shape_of-out c = laying_length c.args.ns c.requires.1 c.loop-n.invariant

pub returns : goal.returns
returns c =
    laying_end c.args.ns c.requires.1 c.loop-n.invariant (omega arith)
