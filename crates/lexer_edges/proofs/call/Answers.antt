-- The parts that are lent lie in their slices.
use mathlib.Core.Path.{sym}
use lib.Seq.{length-take-le}
use native.Mathlib.Omega.{arith}
use Rattle.lexer_edges.proofs.call.Goals as goal

pub slice_bounds-read-end-2 : goal.slice_bounds-read-end-2
slice_bounds-read-end-2 g c =
    sym (length-take-le c.args.words c.args.records.now (omega arith))

pub slice_bounds-read-end-4 : goal.slice_bounds-read-end-4
slice_bounds-read-end-4 g c =
    sym (length-take-le c.args.bytes c.args.text.now (omega arith))
