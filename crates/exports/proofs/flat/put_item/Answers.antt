-- Only the arm of an item writes: its record's words, from the front on.
use mathlib.Core.Path.{sym, ap, ◌∙◌}
use Rattle.pieces.specs.declared.Got.{Got}
use Rattle.pieces_calls.specs.Answers.{what_of}
use Rattle.exports.specs.Piece.{record_after}
use Rattle.exports.proofs.flat.put_item.Goals as goal

pub returns-in-Item : goal.returns-in-Item
returns-in-Item c = λ text. c.put.ensures
    ∙ ap (λ (g : Got). record_after (what_of g text) c.args.item.now)
    (sym c.in-Item.is)

pub returns-in-More : goal.returns-in-More
returns-in-More c = λ text. rw c.in-More.is

pub returns-in-Finished : goal.returns-in-Finished
returns-in-Finished c = λ text. rw c.in-Finished.is

pub returns-in-Refused : goal.returns-in-Refused
returns-in-Refused c = λ text. rw c.in-Refused.is
