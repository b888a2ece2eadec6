-- What the plain call says is what is told (Spotted: told-by).
use mathlib.Core.Path.{ap, ◌∙◌}
use lib.ListN.{length}
use Rattle.pieces.specs.Calls.{text_after}
use Rattle.pieces_lent.specs.declared.Words.{Words}
use Rattle.pieces_lent.specs.Calls.{Said, lent, end_for}
use Rattle.exports.specs.Piece.{memory}
use Rattle.exports.proofs.Spotted.{told_by_lem}
use Rattle.exports.proofs.flat.end_plainly.Goals as goal

pub returns : goal.returns
returns c =
    let a = c.args in
    let p = c.end_words-told in
    let same = ap (λ (w : Words). end_for (lent w a.buf.now) (length a.text.now)) c.words_in.ensures in
    told_by_lem (memory a.buf.now a.words.now a.text.now a.item.now a.values.now) _ p.result (p.ensures.0 ∙ same)
    (p.ensures.1 ∙ ap (λ (x : Said). text_after x.what a.text.now) same) (c.tell.ensures _ _ a.text.now)
