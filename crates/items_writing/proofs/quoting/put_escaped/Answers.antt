-- The invariant: what stands before the place is laid, and nothing else.
use native.Mathlib.Omega.{arith}
use Rattle.laws.proofs.Lent.{length_part}
use Rattle.items_writing.proofs.QuotedBytes.{laid_start, laid_length, laid_room, laid_on, laid_end, laid_size}
use Rattle.items_writing.proofs.quoting.put_escaped.Goals as goal

pub loop-b-init : goal.loop-b-init
loop-b-init c = laid_start c.args.mark c.args.t.now _

pub slice_bounds-put_byte-count : goal.slice_bounds-put_byte-count
slice_bounds-put_byte-count c =
    omega (arith, laid_room c.args.mark c.args.t.now c.loop-b.invariant c.requires (omega arith))

pub slice_bounds-put_byte-start : goal.slice_bounds-put_byte-start
slice_bounds-put_byte-start c =
    omega (arith, laid_room c.args.mark c.args.t.now c.loop-b.invariant c.requires (omega arith))

pub slice_bounds-put_byte-end : goal.slice_bounds-put_byte-end
slice_bounds-put_byte-end c =
    omega (arith, laid_room c.args.mark c.args.t.now c.loop-b.invariant c.requires (omega arith))

pub put_byte-n-requires : goal.put_byte-n-requires
put_byte-n-requires c =
    let turn = c.loop-b in
    omega (arith, length_part turn.out turn.n, laid_room c.args.mark c.args.t.now turn.invariant c.requires (omega arith))

pub overflow_add-n : goal.overflow_add-n
overflow_add-n c =
    let turn = c.loop-b in
    omega (
      arith,
      c.put_byte-n.ensures.0,
      laid_room c.args.mark c.args.t.now turn.invariant c.requires (omega arith),
      laid_length
          c.args.mark c.args.t.now turn.invariant c.requires,
    )

pub loop-b-preserved : goal.loop-b-preserved
loop-b-preserved c =
    let turn = c.loop-b in
    laid_on c.args.mark c.args.t.now turn.invariant c.requires (omega arith) c.put_byte-n.ensures.1 c.put_byte-n.ensures.0

pub shape_of-out : goal.shape_of-out
shape_of-out c =
    laid_length c.args.mark c.args.t.now c.loop-b.invariant c.requires

pub returns : goal.returns
returns c = (
  laid_size c.args.mark c.args.t.now c.loop-b.invariant c.requires (omega arith),
  laid_end c.args.mark c.args.t.now
      c.loop-b.invariant c.requires (omega arith),
)
