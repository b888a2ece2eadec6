-- What is left of the word after the plus is a part of the pair.
use mathlib.Core.Path.{sym}
use lib.Seq.{length-take-le}
use native.Mathlib.Omega.{arith}
use Rattle.pieces_giving.proofs.ends.give_second.Goals as goal

pub extent-requires : goal.extent-requires
extent-requires c = (omega arith, omega arith)

pub extent-requires-2 : goal.extent-requires-2
extent-requires-2 c = (omega arith, omega arith)

pub slice_bounds-give-end : goal.slice_bounds-give-end
slice_bounds-give-end c =
    sym (length-take-le c.args.m.len c.args.buf.now (omega arith))

pub give-requires : goal.give-requires
give-requires c =
    let l = length-take-le c.args.m.len c.args.buf.now (omega arith) in (omega (arith, l), omega (arith, l), omega arith)

pub returns : goal.returns
returns c = rw c.extent-2.ensures at c.give.ensures
