-- What was laid so far is the start of the text, and the rest of it is still to be written.
use native.Mathlib.Omega.{arith}
use mathlib.Core.Bool.{true}
use Rattle.items_writing.proofs.RecordLoops.{put_start, put_length, put_end, put_room, put_part, put_on}
use Rattle.items_writing.proofs.put.Goals as goal

pub loop-p-init : goal.loop-p-init
loop-p-init c =
    put_start c.args.records.now c.args.source.now c.args.text.now c.args.out.now true 0 (omega arith)

pub taken-requires : goal.taken-requires
taken-requires c = (omega arith, c.requires.all_right)

pub slice_bounds-put_piece-count : goal.slice_bounds-put_piece-count
slice_bounds-put_piece-count c =
    let turn = c.loop-p in
    omega (
      arith,
      put_room c.args.records.now c.args.source.now c.args.text.now turn.invariant c.requires.true_in_bounds
          c.taken.ensures,
    )

pub slice_bounds-put_piece-start : goal.slice_bounds-put_piece-start
slice_bounds-put_piece-start c =
    let turn = c.loop-p in
    omega (
      arith,
      put_room c.args.records.now c.args.source.now c.args.text.now turn.invariant c.requires.true_in_bounds
          c.taken.ensures,
    )

pub slice_bounds-put_piece-end : goal.slice_bounds-put_piece-end
slice_bounds-put_piece-end c =
    let turn = c.loop-p in
    omega (
      arith,
      put_room c.args.records.now c.args.source.now c.args.text.now turn.invariant c.requires.true_in_bounds
          c.taken.ensures,
    )

pub put_piece-n-requires : goal.put_piece-n-requires
put_piece-n-requires c =
    let turn = c.loop-p in
    put_part c.args.records.now c.args.source.now c.args.text.now turn.invariant c.requires.true_in_bounds c.taken.ensures

pub overflow_add-n : goal.overflow_add-n
overflow_add-n c =
    let turn = c.loop-p in
    omega (
      arith,
      c.put_piece-n.ensures.0,
      put_room c.args.records.now c.args.source.now c.args.text.now turn.invariant
          c.requires.true_in_bounds c.taken.ensures,
      put_length c.args.records.now c.args.source.now c.args.text.now turn.invariant
          c.requires.true_in_bounds,
    )

pub overflow_add-p : goal.overflow_add-p
overflow_add-p c = omega (arith, c.taken.ensures.turn.inside)

pub loop-p-smaller : goal.loop-p-smaller
loop-p-smaller c = omega (arith, c.taken.ensures.turn.from, c.taken.ensures.turn.inside)

pub loop-p-preserved : goal.loop-p-preserved
loop-p-preserved c =
    let turn = c.loop-p in
    put_on c.args.records.now c.args.source.now c.args.text.now turn.invariant c.requires.true_in_bounds
    c.taken.ensures c.put_piece-n.ensures.1 c.put_piece-n.ensures.0

pub shape_of-out : goal.shape_of-out
shape_of-out c =
    put_length c.args.records.now c.args.source.now c.args.text.now c.loop-p.invariant c.requires.true_in_bounds

pub returns : goal.returns
returns c =
    put_end c.args.records.now c.args.source.now c.args.text.now c.loop-p.invariant c.requires.true_in_bounds c.loop-p-test.false
