-- A state within its bounds is fed, any other stays.
use mathlib.Core.Path.{◌∙◌}
use Rattle.lines.proofs.Feeding.{piece_stays, piece_feeds}
use Rattle.lines_calls.proofs.pieces.piece.Goals as goal

pub returns-then-st : goal.returns-then-st
returns-then-st c = let a = c.args in piece_stays a.st a.bytes.now a.index.now c.if-st.true

pub returns : goal.returns
returns c = let a = c.args in
    c.feed.ensures ∙ piece_feeds a.st a.bytes.now a.index.now c.if-st.false
