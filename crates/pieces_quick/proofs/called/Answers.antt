-- Either call of `pieces_lent` says it.
use Rattle.pieces_quick.proofs.called.Goals as goal

pub piece_stood-requires : goal.piece_stood-requires
piece_stood-requires c = c.requires c.if-known.true
