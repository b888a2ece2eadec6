-- What the quick path tells is what the end call of `pieces_lent` says (Ended); what it does not tell the plain call does, on the same memory.
use mathlib.Core.Path.{sym, ap, ◌∙◌, subst}
use Rattle.pieces.specs.declared.Got.TheVariants as got
use Rattle.pieces_lent.specs.declared.Words.{Words}
use Rattle.pieces_lent.specs.Calls.{said}
use Rattle.std.proofs.Common.{Option, Some}
use Rattle.pieces_last.specs.declared.Last.{Last}
use Rattle.pieces_last.specs.Ends.{with_end, last_words, told_last, Ends}
use Rattle.exports.specs.Piece.{gives, memory}
use Rattle.exports.proofs.Spotted.{told_by_lem}
use Rattle.exports.proofs.Ended.{placed_last, ends_on}
use Rattle.exports.proofs.flat.end_on.Goals as goal

pub returns-in-Some-Item : goal.returns-in-Some-Item
returns-in-Some-Item c =
    let a = c.args in
    let m = memory a.buf.now a.words.now a.text.now a.item.now a.values.now in
    let ended = c.end_quickly in
    let then = ended.new.text in
    let depth = c.in-Some-Item.depth in
    let given = c.in-Some-Item.record in
    let told = subst (λ (q : Option Last). Ends a.state a.buf.now a.text.now then q) c.in-Some-Item.is ended.ensures in
    let h = subst (λ (q : Last). Ends a.state a.buf.now a.text.now then (Some q)) c.in-Some-Item.field-0-is told in
    told_by_lem m _ (told_last (last_words a.state depth) (got.Item given)) h.0 h.1
    (c.tell_last.ensures a.buf.now then a.text.now
    ∙ ap (λ (v : Words). gives m (said (told_last v (got.Item given)) a.buf.now then)) (placed_last a.state c.requires.5 a.words.now c.requires.2 depth))

pub returns-in-Some-Finished : goal.returns-in-Some-Finished
returns-in-Some-Finished c =
    let ended = c.end_quickly in
    let a = c.args in
    let m = memory a.buf.now a.words.now a.text.now a.item.now a.values.now in
    let then = ended.new.text in
    let told = subst (λ (q : Option Last). Ends a.state a.buf.now a.text.now then q) c.in-Some-Finished.is ended.ensures in
    let h = subst (λ (q : Last). Ends a.state a.buf.now a.text.now then (Some q)) c.in-Some-Finished.field-0-is told in
    told_by_lem m _ (told_last (with_end a.state 1) got.Finished) h.0 h.1
    (c.tell_finished.ensures a.item.now a.buf.now then a.text.now
    ∙ ap (λ (v : Words). gives m (said (told_last (with_end v 1) got.Finished) a.buf.now then)) (sym c.requires.2))

pub returns-in-None : goal.returns-in-None
returns-in-None c =
    let ended = c.end_quickly in
    let a = c.args in
    let then = ended.new.text in
    let h = subst (λ (q : Option Last). Ends a.state a.buf.now a.text.now then q) c.in-None.is ended.ensures in
    ends_on (memory a.buf.now a.words.now a.text.now a.item.now a.values.now) a.state then c.requires.2 h c.end_plainly.ensures
