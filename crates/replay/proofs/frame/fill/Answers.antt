-- The bytes asked for lie within the slice, by the test before.
use Rattle.std.proofs.Common.{sym, arith, length-take-le}
use Rattle.replay.proofs.frame.fill.Goals as goal

pub slice_bounds-read_full-end-2 : goal.slice_bounds-read_full-end-2
slice_bounds-read_full-end-2 g c = sym (length-take-le _ _ (omega arith))
