-- What the plain call says from the place on is what is told (Spotted: told-by).
use mathlib.Core.Path.{sym, ap, ◌∙◌, subst}
use lib.ListN.{length, drop}
use Rattle.pieces.specs.Calls.{text_after}
use Rattle.pieces_lent.specs.declared.Words.{Words}
use Rattle.pieces_lent.specs.Stood.{Stood}
use Rattle.pieces_lent.specs.Calls.{Said, lent, piece_for}
use Rattle.pieces_quick.specs.Gives.{later}
use Rattle.exports.specs.Piece.{memory}
use Rattle.exports.proofs.Spotted.{told_by_lem}
use Rattle.exports.proofs.flat.read_plainly.Goals as goal

pub plainly-told-requires : goal.plainly-told-requires
plainly-told-requires c =
    (c.requires.2, λ e. subst (λ (w : Words). Stood w c.args.buf.now c.args.text.now) (sym c.words_in.ensures) (c.requires.3 e))

pub tell-requires : goal.tell-requires
tell-requires c =
    (c.requires.0, c.requires.1)

pub returns : goal.returns
returns c =
    let p = c.plainly-told in
    let a = c.args in
    let same = ap (λ (w : Words). later a.from (piece_for (lent w a.buf.now) (drop a.from a.piece.now) (length a.text.now)))
    c.words_in.ensures in
    told_by_lem (memory a.buf.now a.words.now a.text.now a.item.now a.values.now) _ p.result (p.ensures.0 ∙ same)
    (p.ensures.1 ∙ ap (λ (x : Said). text_after x.what a.text.now) same) (c.tell.ensures _ _ a.text.now)
