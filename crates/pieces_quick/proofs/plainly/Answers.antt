-- The plain call on the rest of the piece, with the bytes before it (Answering: continues).
use native.Mathlib.Omega.{arith}
use Rattle.pieces_quick.proofs.Answering.{plain_taken, continues}
use Rattle.pieces_quick.proofs.plainly.Goals as goal

pub called-told-requires : goal.called-told-requires
called-told-requires c = c.requires.1

pub overflow_add-result : goal.overflow_add-result
overflow_add-result c =
    let p = c.called-told in
    omega (arith, plain_taken c.args.words c.args.from c.args.piece.now c.args.buf.now _ c.args.text.now _ c.requires.0 p.result p.ensures.0 p.ensures.1)

pub returns : goal.returns
returns c =
    let p = c.called-told in
    continues c.args.words c.args.from c.args.piece.now c.args.buf.now _ c.args.text.now _ c.requires.0 p.result p.ensures.0 p.ensures.1
