-- Every part lies within its slice, by the tests before.
use Rattle.std.proofs.Common.{sym, arith, length-take-le}
use Rattle.replay.proofs.judge.frame.Goals as goal

pub slice_bounds-judged-end : goal.slice_bounds-judged-end
slice_bounds-judged-end c = sym (length-take-le _ _ (omega arith))

pub slice_bounds-judged-end-2 : goal.slice_bounds-judged-end-2
slice_bounds-judged-end-2 c = sym (length-take-le _ _ (omega arith))

pub slice_bounds-judged-end-3 : goal.slice_bounds-judged-end-3
slice_bounds-judged-end-3 c = sym (length-take-le _ _ (omega arith))

pub slice_bounds-judged-end-5 : goal.slice_bounds-judged-end-5
slice_bounds-judged-end-5 c = sym (length-take-le _ _ (omega arith))

pub slice_bounds-judged-end-7 : goal.slice_bounds-judged-end-7
slice_bounds-judged-end-7 c = sym (length-take-le _ _ (omega arith))
