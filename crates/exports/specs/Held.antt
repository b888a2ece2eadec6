-- When the memory of a piece or end call holds a state of `pieces_lent`.
use Rattle.std.specs.Prelude.{◌≡◌, length}
use Rattle.pieces.specs.Expected.{longest}
use Rattle.pieces_lent.specs.declared.LentState.{LentState}
use Rattle.exports.specs.Piece.{listed, Memory}

pub record Holds (m : Memory) (s : LentState) : Type 0 where
  pub bytes : m.buf ≡ s.buf
  pub words : m.words ≡ listed s.words
  pub full : length s.buf ≡ longest
