-- The bytes are laid behind those held, and the newline ends the comment (CommentLines).
use native.Mathlib.Omega.{arith}
use Prim.Native.Nat.{ℕ, ◌+◌, ◌-◌, ◌≤◌}
use mathlib.Core.Path.{◌≡◌}
use mathlib.Core.List.{List}
use lib.ListN.{length, take, drop}
use borrow.Rule.Slice.PartMut.{put_mid}
use Rattle.pieces.specs.Calls.{laid_at}
use Rattle.pieces_giving.proofs.Laid.{part_laid}
use Rattle.pieces_spots.proofs.CommentLines.{few, line_fits_on, done_fits_on}
use Rattle.pieces_spots.proofs.comments.past_line.Tie as tie
use Rattle.pieces_spots.proofs.comments.past_line.Lts as lts
use Rattle.pieces_spots.proofs.comments.past_line.Reads as reads
use Rattle.pieces_spots.proofs.comments.past_line.Goals as goal

-- the bytes copied are among those looked at, and those within the piece
few-at : (c : lts.After-copy_line tie.the-claims reads.Pre reads.Post)
    → (c.copy_line-n.result ≤ c.min.result) × (c.args.s.i + c.copy_line-n.result ≤ length c.args.piece.now)
few-at c =
    few c.args.s c.args.buf.now c.args.piece.now c.requires.0 c.requires.1
    c.min.result c.copy_line-n.result (omega (arith, c.min.ensures)) c.copy_line-n.ensures.0

-- they are laid behind the bytes held
abbrev copied-of : lts.After-copy_line tie.the-claims reads.Pre reads.Post → List ℕ
copied-of c =
    let s = c.args.s in
    take c.copy_line-n.result (take (s.i + c.min.result - s.i) (drop s.i c.args.piece.now))

laid-at : (c : lts.After-copy_line tie.the-claims reads.Pre reads.Post)
    → put_mid c.args.s.len (length c.args.buf.now - c.args.s.len) c.args.buf.now c.copy_line-n.new.text
    ≡ laid_at c.args.s.len (copied-of c) c.args.buf.now
laid-at c = part_laid c.args.s.len (copied-of c) c.args.buf.now c.copy_line-n.ensures.1

pub overflow_add-i : goal.overflow_add-i
overflow_add-i c = omega (arith, (few-at c.before.before.before).1)

pub has_newline-requires : goal.has_newline-requires
has_newline-requires c = ((few-at c.before.before.before).1, omega (arith, c.min.ensures, c.requires.0.inside))

pub end_line-requires : goal.end_line-requires
end_line-requires c =
    let f = few-at c.before.before.before.before.before.before in
    let told = c.has_newline.ensures c.if-has_newline.true in
    let size = (line_fits_on c.args.s c.args.buf.now c.args.piece.now c.requires.0 c.requires.1
    c.min.result c.copy_line-n.result (omega (arith, c.min.ensures)) c.copy_line-n.ensures.0 _ (laid-at c.before.before.before.before.before.before)).0.full in (
      omega (arith, size, f.0, told.0, c.min.ensures, c.requires.0.small),
      omega (arith, told.0, c.min.ensures, c.requires.0.far, c.requires.0.inside),
      omega (arith, told.0, c.min.ensures, c.requires.0.inside),
    )

pub returns-then-has_newline : goal.returns-then-has_newline
returns-then-has_newline c =
    let told = c.has_newline.ensures c.if-has_newline.true in
    done_fits_on c.args.s c.args.buf.now c.args.piece.now c.requires.0 c.requires.1
    c.min.result c.copy_line-n.result (omega (arith, c.min.ensures)) c.copy_line-n.ensures.0 _ (laid-at c.before.before.before.before.before.before.before.before.before)
    told.0 (omega (arith, c.min.ensures, c.requires.0.inside)) told.1 _ _
    c.end_line.ensures.0 c.end_line.ensures.1

pub overflow_add-result : goal.overflow_add-result
overflow_add-result c =
    omega (arith, (few-at c.before.before.before.before.before.before).1, c.requires.0.far)

pub overflow_add-result-2 : goal.overflow_add-result-2
overflow_add-result-2 c =
    omega (arith, (few-at c.before.before.before.before.before.before).0, c.min.ensures, c.requires.0.small)

pub overflow_add-result-3 : goal.overflow_add-result-3
overflow_add-result-3 c = omega (arith, (few-at c.before.before.before.before.before.before).1)

pub returns : goal.returns
returns c =
    let on = line_fits_on c.args.s c.args.buf.now c.args.piece.now c.requires.0 c.requires.1
    c.min.result c.copy_line-n.result (omega (arith, c.min.ensures)) c.copy_line-n.ensures.0 _ (laid-at c.before.before.before.before.before.before) in
    (on.0, on.1, λ h. absurd (omega (arith, h)))
