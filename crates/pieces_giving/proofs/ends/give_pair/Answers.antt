-- The first item is given, and the pair is kept.
use mathlib.Core.Path.{sym, ap}
use lib.Seq.{length-take-le}
use native.Mathlib.Omega.{arith}
use Rattle.pieces.specs.declared.Marks.{Marks}
use Rattle.pieces_giving.specs.Answers.{state_of}
use Rattle.pieces_giving.proofs.Steps.{off_both}
use Rattle.pieces_giving.proofs.ends.give_pair.Goals as goal

pub extent-requires : goal.extent-requires
extent-requires c = (omega arith, omega arith)

pub slice_bounds-give-end-2 : goal.slice_bounds-give-end-2
slice_bounds-give-end-2 c =
    sym (length-take-le c.args.m.len c.args.buf.now (omega arith))

pub give-r-requires : goal.give-r-requires
give-r-requires c =
    let l = length-take-le c.args.m.len c.args.buf.now (omega arith) in (omega (arith, l), omega (arith, l), omega arith)

pub returns : goal.returns
returns c =
    let g = (rw c.extent.ensures at c.give-r.ensures) in (
      off_both (ap (λ (x : Marks). state_of x c.args.buf.now)
          c.marks_at-next.ensures) g.0,
      g.1,
    )
