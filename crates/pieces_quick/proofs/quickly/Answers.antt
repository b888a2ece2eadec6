-- The moves lead from the words to the last spot, so the answer from there is theirs (Answering: answers). A comment's line is passed first.
use native.Mathlib.Omega.{arith}
use lib.ListN.{length}
use Rattle.pieces_spots.proofs.Moves.{along}
use Rattle.pieces_quick.specs.declared.Reached.TheVariants.{More}
use Rattle.pieces_quick.proofs.Answering.{last_reached, more_feeds, answers}
use Rattle.pieces_quick.proofs.quickly.Goals as goal

pub from_comment-requires : goal.from_comment-requires
from_comment-requires c =
    let s = c.lined-s in (
      s.ensures.0,
      last_reached c.args.words c.args.buf.now c.args.text.now c.args.piece.now c.requires.0
          c.requires.1 c.requires.2 s.result _ s.ensures.1,
      omega arith,
      s.ensures.2 (omega arith) (omega arith),
    )

pub returns-then-s-eq-DONE_TOKEN : goal.returns-then-s-eq-DONE_TOKEN
returns-then-s-eq-DONE_TOKEN c =
    let s = c.lined-s in
    answers c.args.words c.args.buf.now c.args.text.now c.args.piece.now c.requires.0 c.requires.1 c.requires.2
    s.result _ s.ensures.1 s.ensures.0 c.from_comment.result _ _ c.from_comment.ensures

pub returns-then-piece-s : goal.returns-then-piece-s
returns-then-piece-s c =
    let s = c.lined-s in
    let reached = last_reached c.args.words c.args.buf.now c.args.text.now c.args.piece.now c.requires.0
    c.requires.1 c.requires.2 s.result _ s.ensures.1 in
    answers c.args.words c.args.buf.now c.args.text.now c.args.piece.now c.requires.0 c.requires.1 c.requires.2
    s.result _ s.ensures.1 s.ensures.0 (More s.result) _ _
    (more_feeds c.args.words (length c.args.piece.now) c.requires.2 s.result _ c.args.text.now c.args.piece.now
    s.ensures.0 reached.sound (omega arith))

pub from_spot-requires : goal.from_spot-requires
from_spot-requires c =
    let last = c.through-last in
    let on = along c.args.piece.now _ _ _ _ _ _ c.lined-s.ensures.1 last.ensures.1 in (
      last.ensures.0,
      last_reached c.args.words c.args.buf.now c.args.text.now c.args.piece.now c.requires.0
          c.requires.1 c.requires.2 last.result _ on,
    )

pub returns : goal.returns
returns c =
    let last = c.through-last in
    let on = along c.args.piece.now _ _ _ _ _ _ c.lined-s.ensures.1 last.ensures.1 in
    answers c.args.words c.args.buf.now c.args.text.now c.args.piece.now c.requires.0 c.requires.1 c.requires.2
    last.result _ on last.ensures.0 c.from_spot.result _ _ c.from_spot.ensures
