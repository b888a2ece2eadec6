-- The loop keeps: the blocks so far are copied, and the run goes on past them (CopiedBlocks; CopiedLines: block-over).
use native.Mathlib.Omega.{arith}
use Prim.Native.Nat.{◌+◌, ◌≤◌}
use borrow.Author.Tests.{leb-false}
use mathlib.Core.Path.{refl, sym, ap, ◌∙◌}
use lib.ListN.{length, take, length-take}
use Rattle.laws.proofs.Blocks.{block_room, block_on}
use Rattle.laws.proofs.Lent.{length_part, length-written}
use Rattle.byte_runs.specs.Runs.{block}
use Rattle.pieces_spots.specs.Lines.{of_line}
use Rattle.pieces_spots.proofs.CopiedLines.{block_over}
use Rattle.pieces_spots.proofs.comments.copy_blocks.Tie as tie
use Rattle.pieces_spots.proofs.comments.copy_blocks.Lts as lts
use Rattle.pieces_spots.proofs.comments.copy_blocks.Reads as reads
use Rattle.pieces_spots.proofs.comments.copy_blocks.Goals as goal

-- a block that passed its test is within the line
room : (c : lts.Then1 tie.the-claims reads.Pre reads.Post goal.the-invariant-loop-text goal.the-decreases-loop-text) → c.loop-text.i + block ≤ length c.args.raw.now
room c = block_room of_line c.args.raw.now c.loop-text.i block c.line_block.ensures c.loop-text-test.true (omega arith)

pub loop-text-init : goal.loop-text-init
loop-text-init c = (refl, omega arith, record { inside = omega arith; run = omega arith; whole = λ h. absurd (omega arith); wrote = refl })

pub slice_bounds-copy_block-count : goal.slice_bounds-copy_block-count
slice_bounds-copy_block-count c = c.loop-text.invariant.1

pub slice_bounds-copy_block-start : goal.slice_bounds-copy_block-start
slice_bounds-copy_block-start c = c.loop-text.invariant.1

pub slice_bounds-copy_block-count-in-loop-text : goal.slice_bounds-copy_block-count-in-loop-text
slice_bounds-copy_block-count-in-loop-text c = omega (arith, c.loop-text.invariant.0, c.loop-text.invariant.1, c.requires)

pub slice_bounds-copy_block-start-in-loop-text : goal.slice_bounds-copy_block-start-in-loop-text
slice_bounds-copy_block-start-in-loop-text c = omega (arith, c.loop-text.invariant.0, c.loop-text.invariant.1, c.requires)

pub copy_block-requires : goal.copy_block-requires
copy_block-requires c =
    let l = c.loop-text in
    let r = room c.before.before.before in (
      omega (arith, r, length_part c.args.raw.now l.i),
      omega (arith, r, length_part l.text l.i, l.invariant.0, c.requires),
    )

pub overflow_add-i : goal.overflow_add-i
overflow_add-i c = omega (arith, room c.before.before.before.before.before.before)

pub loop-text-smaller : goal.loop-text-smaller
loop-text-smaller c = omega (arith, room c.before.before.before.before.before.before)

pub loop-text-preserved : goal.loop-text-preserved
loop-text-preserved c =
    let l = c.loop-text in
    let r = room c.before.before.before.before.before.before in
    let raw = c.args.raw.now in
    let old = c.args.text.now in
    let wrote = block_over raw old l.i l.i c.requires r (omega arith) (omega arith) l.invariant.2.wrote c.copy_block.ensures in (
      ap length wrote ∙ length-written (take (l.i + block) raw) old (omega (arith, c.requires, length-take (l.i + block) raw)),
      r,
      record {
        inside = r;
        run = block_on of_line raw l.i block c.line_block.ensures c.loop-text-test.true ∙ l.invariant.2.run;
        whole = λ h. omega arith;
        wrote = wrote;
      },
    )

pub shape_of-text : goal.shape_of-text
shape_of-text c = c.loop-text.invariant.0

pub returns : goal.returns
returns c = (c.loop-text.invariant.2, leb-false block _ (sym c.line_block.ensures ∙ c.loop-text-test.false))
