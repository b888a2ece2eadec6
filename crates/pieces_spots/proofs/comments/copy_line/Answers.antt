-- The blocks and what is left of the line are copied (CopiedLines: line-short, line-long).
use native.Mathlib.Omega.{arith}
use Prim.Native.Nat.{◌-◌, ◌≤◌}
use mathlib.Core.Path.{◌≡◌, sym}
use lib.ListN.{length}
use lib.Seq.{length-take-le}
use Rattle.laws.specs.Texts.{span}
use Rattle.laws.proofs.Lent.{length_part}
use Rattle.byte_runs.specs.Runs.{block}
use Rattle.pieces_spots.specs.Lines.{of_line}
use Rattle.pieces_spots.proofs.CopiedLines.{line_count, line_inside, line_now, line_fits, line_short, line_long}
use Rattle.pieces_spots.proofs.comments.copy_line.Tie as tie
use Rattle.pieces_spots.proofs.comments.copy_line.Lts as lts
use Rattle.pieces_spots.proofs.comments.copy_line.Reads as reads
use Rattle.pieces_spots.proofs.comments.copy_line.Goals as goal

-- the line is counted, it is within the source, and the text memory is as long as it was
count_at : (c : lts.After-line_rest tie.the-claims reads.Pre reads.Post) → c.line_rest-n.result ≡ span of_line c.args.raw.now
count_at c =
    line_count c.args.raw.now c.args.text.now c.requires
    c.copy_blocks-i.ensures.0 c.copy_blocks-i.ensures.1 c.line_rest-n.ensures

inside-at : (c : lts.After-line_rest tie.the-claims reads.Pre reads.Post) → c.line_rest-n.result ≤ length c.args.raw.now
inside-at c =
    line_inside c.args.raw.now c.args.text.now c.requires
    c.copy_blocks-i.ensures.0 c.copy_blocks-i.ensures.1 c.line_rest-n.ensures

now-at : (c : lts.After-line_rest tie.the-claims reads.Pre reads.Post) → length c.copy_blocks-i.new.text ≡ length c.args.text.now
now-at c =
    line_now c.args.raw.now c.args.text.now c.requires
    c.copy_blocks-i.ensures.0 c.copy_blocks-i.ensures.1 c.line_rest-n.ensures

pub slice_bounds-copy_all-end : goal.slice_bounds-copy_all-end
slice_bounds-copy_all-end c = sym (length-take-le _ c.args.raw.now (inside-at c.before.before))

pub copy_all-requires : goal.copy_all-requires
copy_all-requires c =
    line_fits c.args.raw.now c.args.text.now c.requires
    c.copy_blocks-i.ensures.0 c.copy_blocks-i.ensures.1 c.line_rest-n.ensures

pub returns-then-n-lt-BLOCK : goal.returns-then-n-lt-BLOCK
returns-then-n-lt-BLOCK c = (
  count_at c.before.before.before.before.before.before,
  line_short c.args.raw.now c.args.text.now c.requires
      c.copy_blocks-i.ensures.0 c.copy_blocks-i.ensures.1 c.line_rest-n.ensures (omega arith) c.copy_all.ensures,
)

pub slice_bounds-copy_block-count : goal.slice_bounds-copy_block-count
slice_bounds-copy_block-count c = omega (arith, inside-at c.before.before)

pub slice_bounds-copy_block-start : goal.slice_bounds-copy_block-start
slice_bounds-copy_block-start c = omega (arith, inside-at c.before.before)

pub slice_bounds-copy_block-count-2 : goal.slice_bounds-copy_block-count-2
slice_bounds-copy_block-count-2 c = omega (arith, inside-at c.before.before.before, now-at c.before.before.before, c.requires)

pub slice_bounds-copy_block-start-2 : goal.slice_bounds-copy_block-start-2
slice_bounds-copy_block-start-2 c = omega (arith, inside-at c.before.before.before, now-at c.before.before.before, c.requires)

pub copy_block-requires : goal.copy_block-requires
copy_block-requires c =
    let n = c.line_rest-n.result in
    let now-text = c.copy_blocks-i.new.text in
    let k = inside-at c.before.before.before.before in
    let l = now-at c.before.before.before.before in (
      omega (arith, k, length_part c.args.raw.now (n - block)),
      omega (arith, k, l, c.requires, length_part now-text (n - block)),
    )

pub returns : goal.returns
returns c = (
  count_at c.before.before.before.before.before.before.before,
  line_long c.args.raw.now c.args.text.now c.requires
      c.copy_blocks-i.ensures.0 c.copy_blocks-i.ensures.1 c.line_rest-n.ensures (omega arith) c.copy_block.ensures,
)
