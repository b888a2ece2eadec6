-- The state that the words stand for reads on, so the call is the one on it (Stood).
use Rattle.std.proofs.Common.{Some}
use mathlib.Core.Path.{sym, ap, ◌∙◌, subst}
use lib.ListN.{length}
use Rattle.pieces.specs.declared.Marks.{Marks}
use Rattle.pieces_calls.specs.Answers.{piece_in}
use Rattle.pieces_turns.specs.Inner.{Sound}
use Rattle.pieces_lent.specs.Calls.{lent, piece_for}
use Rattle.pieces_lent.proofs.Served.{served}
use Rattle.pieces_lent.proofs.Stood.{code_narrow, code_seen, called_on}
use Rattle.pieces_lent.proofs.calls.piece_stood.Goals as goal

pub stand-requires : goal.stand-requires
stand-requires c = code_narrow _ c.requires.code

pub piece_on-requires : goal.piece_on-requires
piece_on-requires c =
    subst (λ (m : Marks). Sound m c.args.buf.now c.args.text.now) (sym c.stand.ensures) c.requires.sound

pub returns : goal.returns
unfolding piece_for
returns c =
    let buf = c.args.buf.now in
    let piece = c.args.piece.now in
    let text = c.args.text.now in
    let stood = c.stand in
    let called = c.piece_on in
    let sound = subst (λ (m : Marks). Sound m buf text) (sym stood.ensures) c.requires.sound in
    served (lent c.args.words buf) (λ m. piece_in m buf piece (length text)) text
    (code_seen c.args.words c.requires.code ∙ ap Some (sym stood.ensures))
    c.worded.ensures (called_on stood.result buf text sound piece called.ensures)
