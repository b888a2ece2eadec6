-- The parts done and those from the place on are all parts; at the end all are done.
use mathlib.Core.List.{[], ◌∷◌, ◌++◌}
use native.Mathlib.Omega.{arith}
use Rattle.lexer_fields.proofs.Cuts.{this_known}
use Rattle.lexer_fields.proofs.Progress.{at_start, moves_on, bounds, short, sums, this, total}
use Rattle.lexer_fields.proofs.whole.count.Goals as goal

pub loop-place-init : goal.loop-place-init
loop-place-init c =
    ([], at_start c.args.parts.source.now c.args.parts.ends.now c.args.parts.mode c.args.parts.skip c.requires.fine)

pub slice_bounds-count_part-count : goal.slice_bounds-count_part-count
slice_bounds-count_part-count c = omega (arith, bounds c.loop-place.invariant.1 c.loop-place-test.true)

pub slice_bounds-count_part-start : goal.slice_bounds-count_part-start
slice_bounds-count_part-start c = omega (arith, bounds c.loop-place.invariant.1 c.loop-place-test.true)

pub slice_bounds-count_part-end : goal.slice_bounds-count_part-end
slice_bounds-count_part-end c = omega (arith, bounds c.loop-place.invariant.1 c.loop-place-test.true)

pub count_part-p-requires : goal.count_part-p-requires
count_part-p-requires c =
    (short c.loop-place.invariant.1 c.loop-place-test.true c.requires.fine, this_known c.loop-place.invariant.1 c.loop-place-test.true c.args.parts.known c.requires.all_known)

pub overflow_add-n : goal.overflow_add-n
overflow_add-n c =
    omega (arith, sums c.loop-place.invariant.1 c.loop-place-test.true c.requires.fine c.count_part-p.result c.count_part-p.ensures)

pub overflow_add-free : goal.overflow_add-free
overflow_add-free c =
    omega (arith, sums c.loop-place.invariant.1 c.loop-place-test.true c.requires.fine c.count_part-p.result c.count_part-p.ensures)

pub loop-place-preserved : goal.loop-place-preserved
loop-place-preserved c = (
  c.loop-place.invariant.0 ++ (this c.loop-place.invariant.1 c.loop-place-test.true ∷ []),
  moves_on c.loop-place.invariant.1 c.loop-place-test.true c.count_part-p.result c.count_part-p.ensures,
)

pub returns : goal.returns
returns c = total c.loop-place.invariant.1 c.loop-place-test.false
