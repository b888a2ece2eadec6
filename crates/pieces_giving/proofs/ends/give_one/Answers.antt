-- A comment that is skipped, or the item and what stands beyond it.
use mathlib.Core.Path.{refl, sym, ap, ◌∙◌}
use lib.Seq.{length-take-le}
use native.Mathlib.Omega.{arith}
use Rattle.pieces.specs.Calls.{on}
use Rattle.pieces_giving.proofs.Steps.{off_both}
use Rattle.pieces_giving.proofs.ends.give_one.Goals as goal

pub beyond-requires : goal.beyond-requires
beyond-requires c =
    (c.requires.0.full, c.requires.1)

pub returns-then-skips : goal.returns-then-skips
returns-then-skips c = rw (
  sym c.skips.ensures ∙ c.if-skips.true,
  c.go_on.ensures,
) (ap on c.beyond.ensures, refl)

pub extent-requires : goal.extent-requires
extent-requires c = (omega arith, omega arith)

pub slice_bounds-give-end-2 : goal.slice_bounds-give-end-2
slice_bounds-give-end-2 c =
    sym (length-take-le c.args.m.len c.args.buf.now (omega arith))

pub give-r-requires : goal.give-r-requires
give-r-requires c =
    let l = length-take-le c.args.m.len c.args.buf.now (omega arith) in (omega (arith, l), omega (arith, l), omega arith)

pub beyond-next-requires : goal.beyond-next-requires
beyond-next-requires c =
    (c.requires.0.full, rw c.counted.ensures c.requires.1)

pub returns : goal.returns
returns c =
    let g = (rw c.extent.ensures at c.give-r.ensures) in
    rw (sym c.skips.ensures ∙ c.if-skips.false)
    (off_both (rw c.counted.ensures at c.beyond-next.ensures) g.0, g.1)
