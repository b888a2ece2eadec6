-- Words that are a code are served by the call on their marks; others are refused.
use mathlib.Core.Path.{sym, ◌∙◌}
use lib.ListN.{length}
use Rattle.pieces_calls.specs.Answers.{piece_in}
use Rattle.pieces_lent.specs.Calls.{lent, piece_for}
use Rattle.pieces_lent.proofs.Served.{served, unserved}
use Rattle.pieces_lent.proofs.calls.piece_words.Goals as goal

pub returns-in-Some : goal.returns-in-Some
unfolding piece_for
returns-in-Some c =
    served (lent c.args.words c.args.buf.now)
    (λ m. piece_in m c.args.buf.now c.args.piece.now (length c.args.text.now)) c.args.text.now
    (sym c.decode.ensures ∙ c.in-Some.is)
    c.worded.ensures c.piece_call.ensures

pub returns-in-None : goal.returns-in-None
unfolding piece_for
returns-in-None c =
    unserved (lent c.args.words c.args.buf.now)
    (λ m. piece_in m c.args.buf.now c.args.piece.now (length c.args.text.now))
    c.args.text.now (sym c.decode.ensures ∙ c.in-None.is) c.refuse.ensures
