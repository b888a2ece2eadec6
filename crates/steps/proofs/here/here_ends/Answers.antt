-- The line goes from `#<<` to the newline that `find` finds, and the body is what follows; where there is no newline it is empty.
use mathlib.Core.Path.{sym}
use lib.ListN.{drop, length-drop}
use native.Mathlib.Omega.{arith}
use Rattle.laws.specs.Quoted.{code}
use Rattle.laws.proofs.Runs.{before_le}
use Rattle.steps.proofs.Delimiter.{here_short, here_in, here_out}
use Rattle.steps.proofs.here.here_ends.Goals as goal

pub returns-then-raw-lt-OPEN : goal.returns-then-raw-lt-OPEN
returns-then-raw-lt-OPEN c = sym (here_short _ c.if-raw-lt-OPEN.true)

pub overflow_add-newline : goal.overflow_add-newline
overflow_add-newline c =
    omega (arith, c.find-newline.ensures, before_le (code "\n") (drop 3 c.args.raw.now), length-drop 3 c.args.raw.now)

pub slice_bounds-ends_with_line-count : goal.slice_bounds-ends_with_line-count
slice_bounds-ends_with_line-count c =
    omega (arith, c.find-newline.ensures, before_le (code "\n") (drop 3 c.args.raw.now), length-drop 3 c.args.raw.now)

pub slice_bounds-ends_with_line-start : goal.slice_bounds-ends_with_line-start
slice_bounds-ends_with_line-start c =
    omega (arith, c.find-newline.ensures, before_le (code "\n") (drop 3 c.args.raw.now), length-drop 3 c.args.raw.now)

pub slice_bounds-ends_with_line-end : goal.slice_bounds-ends_with_line-end
slice_bounds-ends_with_line-end c =
    omega (arith, c.find-newline.ensures, before_le (code "\n") (drop 3 c.args.raw.now), length-drop 3 c.args.raw.now)

pub slice_bounds-ends_with_line-count-then-newline-raw : goal.slice_bounds-ends_with_line-count-then-newline-raw
slice_bounds-ends_with_line-count-then-newline-raw c =
    omega (arith, c.find-newline.ensures, before_le (code "\n") (drop 3 c.args.raw.now), length-drop 3 c.args.raw.now)

pub slice_bounds-ends_with_line-start-then-newline-raw : goal.slice_bounds-ends_with_line-start-then-newline-raw
slice_bounds-ends_with_line-start-then-newline-raw c =
    omega (arith, c.find-newline.ensures, before_le (code "\n") (drop 3 c.args.raw.now), length-drop 3 c.args.raw.now)

pub slice_bounds-ends_with_line-end-then-newline-raw : goal.slice_bounds-ends_with_line-end-then-newline-raw
slice_bounds-ends_with_line-end-then-newline-raw c =
    omega (arith, c.find-newline.ensures, before_le (code "\n") (drop 3 c.args.raw.now), length-drop 3 c.args.raw.now)

pub returns-then-newline-raw : goal.returns-then-newline-raw
returns-then-newline-raw c = here_in c.args.raw.now _ c.find-newline.ensures c.ends_with_line.ensures

pub slice_bounds-ends_with_line-count-2 : goal.slice_bounds-ends_with_line-count-2
slice_bounds-ends_with_line-count-2 c =
    omega (arith, c.find-newline.ensures, before_le (code "\n") (drop 3 c.args.raw.now), length-drop 3 c.args.raw.now)

pub slice_bounds-ends_with_line-start-2 : goal.slice_bounds-ends_with_line-start-2
slice_bounds-ends_with_line-start-2 c =
    omega (arith, c.find-newline.ensures, before_le (code "\n") (drop 3 c.args.raw.now), length-drop 3 c.args.raw.now)

pub slice_bounds-ends_with_line-end-2 : goal.slice_bounds-ends_with_line-end-2
slice_bounds-ends_with_line-end-2 c =
    omega (arith, c.find-newline.ensures, before_le (code "\n") (drop 3 c.args.raw.now), length-drop 3 c.args.raw.now)

pub slice_bounds-ends_with_line-count-3 : goal.slice_bounds-ends_with_line-count-3
slice_bounds-ends_with_line-count-3 c =
    omega (arith, c.find-newline.ensures, before_le (code "\n") (drop 3 c.args.raw.now), length-drop 3 c.args.raw.now)

pub slice_bounds-ends_with_line-start-3 : goal.slice_bounds-ends_with_line-start-3
slice_bounds-ends_with_line-start-3 c =
    omega (arith, c.find-newline.ensures, before_le (code "\n") (drop 3 c.args.raw.now), length-drop 3 c.args.raw.now)

pub slice_bounds-ends_with_line-end-3 : goal.slice_bounds-ends_with_line-end-3
slice_bounds-ends_with_line-end-3 c =
    omega (arith, c.find-newline.ensures, before_le (code "\n") (drop 3 c.args.raw.now), length-drop 3 c.args.raw.now)

pub returns : goal.returns
returns c = here_out c.args.raw.now _
    c.find-newline.ensures c.if-newline-raw.false c.ends_with_line-2.ensures
