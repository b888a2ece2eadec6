-- The two turns of a letter begin a word with it (TwoBytes).
use native.Mathlib.Omega.{arith}
use Prim.Native.Nat.{◌+◌, ◌≤◌}
use lib.ListN.{length}
use borrow.Author.Tests.{not-false}
use Rattle.pieces_spots.proofs.TwoBytes.{first_fits, first_on}
use Rattle.pieces_spots.proofs.pairs.begin_letter.Goals as goal

pub returns : goal.returns
returns c =
    let found = c.is_letter.ensures (not-false _ c.if-not-is_letter.false-raw) in
    let inside : c.args.s.i + 2 ≤ length c.args.piece.now = omega (arith, c.if-piece-i-lt-TWO_BYTES.false) in (
      first_fits c.args.s c.args.buf.now c.args.piece.now c.requires.0 c.requires.1 inside found,
      first_on c.args.s c.args.buf.now c.args.piece.now c.requires.0 c.requires.1 inside found,
    )
