-- Words that are a code are served by the call on their marks; others are refused.
use mathlib.Core.Path.{sym, ◌∙◌}
use lib.ListN.{length}
use Rattle.pieces_calls.specs.Answers.{end_in}
use Rattle.pieces_lent.specs.Calls.{lent, end_for}
use Rattle.pieces_lent.proofs.Served.{served, unserved}
use Rattle.pieces_lent.proofs.calls.end_words.Goals as goal

pub returns-in-Some : goal.returns-in-Some
unfolding end_for
returns-in-Some c =
    served (lent c.args.words c.args.buf.now) (λ m. end_in m c.args.buf.now (length c.args.text.now))
    c.args.text.now (sym c.decode.ensures
    ∙ c.in-Some.is) c.worded.ensures c.end_call.ensures

pub returns-in-None : goal.returns-in-None
unfolding end_for
returns-in-None c =
    unserved (lent c.args.words c.args.buf.now) (λ m. end_in m c.args.buf.now (length c.args.text.now))
    c.args.text.now (sym c.decode.ensures ∙ c.in-None.is) c.refuse.ensures
