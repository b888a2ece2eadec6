-- The delimiter's line goes from `#<<` to the newline that `find` finds.
use lib.ListN.{drop, length-drop}
use native.Mathlib.Omega.{arith}
use Rattle.laws.specs.Quoted.{code}
use Rattle.laws.proofs.Runs.{before_le}
use Rattle.steps.proofs.Delimiter.{line_none, line_length}
use Rattle.steps.proofs.here.delimiter_length.Goals as goal

pub returns-then-raw-lt-OPEN : goal.returns-then-raw-lt-OPEN
returns-then-raw-lt-OPEN c = line_none c.args.raw.now c.if-raw-lt-OPEN.true

pub slice_bounds-unreturned_length-count : goal.slice_bounds-unreturned_length-count
slice_bounds-unreturned_length-count c = omega (arith, c.find-newline.ensures, before_le (code "\n") (drop 3 c.args.raw.now), length-drop 3 c.args.raw.now)

pub slice_bounds-unreturned_length-start : goal.slice_bounds-unreturned_length-start
slice_bounds-unreturned_length-start c = omega (
  arith,
  c.find-newline.ensures,
  before_le (code "\n") (drop 3 c.args.raw.now),
  length-drop 3 c.args.raw.now,
)

pub slice_bounds-unreturned_length-end : goal.slice_bounds-unreturned_length-end
slice_bounds-unreturned_length-end c = omega (arith, c.find-newline.ensures, before_le (code "\n") (drop 3 c.args.raw.now), length-drop 3 c.args.raw.now)

pub returns : goal.returns
returns c = line_length c.args.raw.now _ c.find-newline.ensures c.unreturned_length.ensures
