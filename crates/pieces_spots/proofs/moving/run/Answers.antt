-- Bytes that leave an item in its phase are laid behind those held (Moves).
use native.Mathlib.Omega.{arith}
use Prim.Native.Nat.{ℕ, ◌+◌, ◌-◌}
use mathlib.Core.Path.{◌≡◌, ap, ◌∙◌}
use lib.ListN.{length, take, drop, length-take, length-drop}
use Rattle.pieces.specs.Calls.{laid_at}
use Rattle.pieces_giving.proofs.Laid.{part_laid}
use Rattle.pieces_spots.proofs.Runs.{looked}
use Rattle.pieces_spots.proofs.Moves.{ran_fits, ran_on}
use Rattle.pieces_spots.proofs.moving.run.Goals as goal

pub overflow_add-to : goal.overflow_add-to
overflow_add-to c =
    let n = c.kept_count-n.result in
    let f = looked c.args.s.i c.min.result n c.args.piece.now c.requires.inside c.kept_count-n.ensures.0 in
    omega (arith, f.1)

pub slice_bounds-copy_all-end : goal.slice_bounds-copy_all-end
slice_bounds-copy_all-end c =
    let n = c.kept_count-n.result in
    let f = looked c.args.s.i c.min.result n c.args.piece.now c.requires.inside c.kept_count-n.ensures.0 in
    f.1

pub copy_all-requires : goal.copy_all-requires
copy_all-requires c =
    let n = c.kept_count-n.result in
    let f = looked c.args.s.i c.min.result n c.args.piece.now c.requires.inside c.kept_count-n.ensures.0 in
    omega (
      arith,
      f.0,
      c.requires.full,
      c.min.ensures,
      length-take (c.args.s.i + n - c.args.s.i) (drop c.args.s.i c.args.piece.now),
      length-take (length c.args.buf.now - c.args.s.len) (drop c.args.s.len c.args.buf.now),
      length-drop c.args.s.len c.args.buf.now,
    )

pub overflow_add-result : goal.overflow_add-result
overflow_add-result c =
    let n = c.kept_count-n.result in
    let f = looked c.args.s.i c.min.result n c.args.piece.now c.requires.inside c.kept_count-n.ensures.0 in
    omega (arith, f.1, c.requires.far)

pub overflow_add-result-2 : goal.overflow_add-result-2
overflow_add-result-2 c =
    let n = c.kept_count-n.result in
    let f = looked c.args.s.i c.min.result n c.args.piece.now c.requires.inside c.kept_count-n.ensures.0 in
    omega (arith, f.0, c.requires.small, c.min.ensures)

pub returns : goal.returns
returns c =
    let n = c.kept_count-n.result in
    let f = looked c.args.s.i c.min.result n c.args.piece.now c.requires.inside c.kept_count-n.ensures.0 in
    let i = c.args.s.i in
    let k : ℕ = c.min.result in
    let told = c.kept_count-n.ensures.1 (omega arith) in
    let j : i + n - i ≡ n = omega arith in
    let laid = part_laid c.args.s.len (take (i + n - i) (drop i c.args.piece.now)) c.args.buf.now c.copy_all.ensures
    ∙ ap (λ (x : ℕ). laid_at c.args.s.len (take x (drop i c.args.piece.now)) c.args.buf.now) j in (
      ran_fits c.args.s c.args.buf.now c.args.piece.now c.requires n (i + k - i) (omega arith) (omega (arith, c.requires.small, c.min.ensures)) told _ laid,
      ran_on c.args.s c.args.buf.now c.args.piece.now c.requires n (i + k - i) (omega arith) (omega (arith, c.requires.small, c.min.ensures)) told _ laid,
      omega arith,
    )
