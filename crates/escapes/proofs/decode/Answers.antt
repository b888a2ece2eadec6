-- What was given so far lies at the start of the memory, and with what is still to come it makes up the whole text: first the run, then
-- the element after it.
use native.Mathlib.Omega.{arith}
use Rattle.escapes.proofs.Laying.{laying_start, laying_length, laying_le, laying_end, laying_room, laying_fits, laying_on}
use Rattle.escapes.proofs.PlainRuns.{run_ends, run_room, laying_run}
use Rattle.escapes.proofs.decode.Goals as goal

pub loop-i-init : goal.loop-i-init
loop-i-init c = laying_start _ _ _ _ c.requires.0

pub slice_bounds-put_run-count : goal.slice_bounds-put_run-count
slice_bounds-put_run-count c = omega (arith, c.run_end-stop.ensures)

pub slice_bounds-put_run-start : goal.slice_bounds-put_run-start
slice_bounds-put_run-start c = omega (arith, c.run_end-stop.ensures)

pub slice_bounds-put_run-end : goal.slice_bounds-put_run-end
slice_bounds-put_run-end c = omega (arith, run_ends c.run_end-stop.ensures c.loop-i.invariant.reading)

pub slice_bounds-put_run-count-in-loop-i : goal.slice_bounds-put_run-count-in-loop-i
slice_bounds-put_run-count-in-loop-i c = omega (arith, laying_le c.loop-i.invariant c.requires.1)

pub slice_bounds-put_run-start-in-loop-i : goal.slice_bounds-put_run-start-in-loop-i
slice_bounds-put_run-start-in-loop-i c = omega (arith, laying_le c.loop-i.invariant c.requires.1)

pub slice_bounds-put_run-end-in-loop-i : goal.slice_bounds-put_run-end-in-loop-i
slice_bounds-put_run-end-in-loop-i c = omega (arith, laying_le c.loop-i.invariant c.requires.1)

pub put_run-requires : goal.put_run-requires
put_run-requires c = run_room c.run_end-stop.ensures c.loop-i.invariant c.requires.1

pub overflow_sub-n : goal.overflow_sub-n
overflow_sub-n c = omega (arith, c.run_end-stop.ensures)

pub overflow_add-n : goal.overflow_add-n
overflow_add-n c =
    omega (
      arith,
      laying_le (laying_run c.run_end-stop.ensures c.loop-i.invariant c.requires.1 _ c.put_run.ensures) c.requires.1,
      laying_length (laying_run c.run_end-stop.ensures c.loop-i.invariant c.requires.1 _ c.put_run.ensures) c.requires.1,
      laying_length c.loop-i.invariant c.requires.1,
    )

pub shape_of-free-then-raw-stop : goal.shape_of-free-then-raw-stop
shape_of-free-then-raw-stop c =
    laying_length (laying_run c.run_end-stop.ensures
    c.loop-i.invariant c.requires.1 _ c.put_run.ensures)
    c.requires.1

pub returns-then-raw-stop : goal.returns-then-raw-stop
returns-then-raw-stop c =
    laying_end (laying_run c.run_end-stop.ensures
    c.loop-i.invariant c.requires.1 _ c.put_run.ensures)
    c.requires.1 c.if-raw-stop.true

pub slice_bounds-put_given-count : goal.slice_bounds-put_given-count
slice_bounds-put_given-count c =
    omega (
      arith,
      laying_le (laying_run c.run_end-stop.ensures
          c.loop-i.invariant c.requires.1 _ c.put_run.ensures) c.requires.1,
    )

pub slice_bounds-put_given-start : goal.slice_bounds-put_given-start
slice_bounds-put_given-start c =
    omega (
      arith,
      laying_le (laying_run c.run_end-stop.ensures
          c.loop-i.invariant c.requires.1 _ c.put_run.ensures) c.requires.1,
    )

pub slice_bounds-put_given-end : goal.slice_bounds-put_given-end
slice_bounds-put_given-end c =
    omega (
      arith,
      laying_le (laying_run c.run_end-stop.ensures
          c.loop-i.invariant c.requires.1 _ c.put_run.ensures) c.requires.1,
    )

pub put_given-n-requires : goal.put_given-n-requires
put_given-n-requires c =
    laying_room (laying_run c.run_end-stop.ensures c.loop-i.invariant
    c.requires.1 _ c.put_run.ensures) c.requires.1 c.read_element-e.result c.read_element-e.ensures

pub overflow_add-n-in-loop-i : goal.overflow_add-n-in-loop-i
overflow_add-n-in-loop-i c =
    omega (
      arith,
      laying_fits (laying_run c.run_end-stop.ensures c.loop-i.invariant c.requires.1 _ c.put_run.ensures)
          c.requires.1 c.read_element-e.result c.read_element-e.ensures,
      c.put_given-n.ensures.0,
      laying_length (laying_run c.run_end-stop.ensures c.loop-i.invariant c.requires.1 _ c.put_run.ensures) c.requires.1,
      laying_length c.loop-i.invariant c.requires.1,
    )

pub loop-i-smaller : goal.loop-i-smaller
loop-i-smaller c =
    omega (
      arith,
      c.read_element-e.ensures.ahead,
      c.read_element-e.ensures.inside,
      c.run_end-stop.ensures,
    )

pub loop-i-preserved : goal.loop-i-preserved
loop-i-preserved c =
    laying_on (laying_run c.run_end-stop.ensures c.loop-i.invariant
    c.requires.1 _ c.put_run.ensures) c.requires.1 c.read_element-e.result
    c.read_element-e.ensures _ _ c.put_given-n.ensures.0 c.put_given-n.ensures.1

pub shape_of-free : goal.shape_of-free
shape_of-free c = laying_length c.loop-i.invariant c.requires.1

pub returns : goal.returns
returns c = laying_end c.loop-i.invariant c.requires.1 c.loop-i-test.false
