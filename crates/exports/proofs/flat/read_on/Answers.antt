-- What the moves answer is what the call of `pieces_lent` says, and so is what is told of it (Spotted).
use mathlib.Core.Path.{◌∙◌, subst}
use lib.ListN.{length}
use Rattle.pieces.specs.declared.Got.TheVariants.{More, Item}
use Rattle.pieces_quick.specs.declared.Reached.{Reached}
use Rattle.pieces_quick.specs.Gives.{told_at, Answers}
use Rattle.exports.specs.Piece.{memory}
use Rattle.exports.proofs.Spotted.{told_by_lem, goes_on, reads_on}
use Rattle.exports.proofs.flat.read_on.Goals as goal

pub read_plainly-requires : goal.read_plainly-requires
read_plainly-requires c =
    let moves = c.quickly in
    let awaits = subst (λ (r : Reached). Answers c.args.state c.args.piece.now c.args.buf.now moves.new.buf c.args.text.now
    moves.new.text r) c.in-Before.is moves.ensures in (
      c.put_spot.auto.words ∙ c.requires.0,
      c.requires.1,
      awaits.inside,
      λ _. reads_on (memory c.args.buf.now c.args.words.now c.args.text.now c.args.item.now c.args.values.now) c.args.state
          (length c.args.piece.now) c.requires.5 c.requires.2 c.in-Before.s c.args.piece.now moves.new.buf moves.new.text _
          c.put_spot.ensures awaits,
    )

pub returns-in-More : goal.returns-in-More
returns-in-More c =
    let h = subst (λ (q : Reached). Answers c.args.state c.args.piece.now c.args.buf.now c.quickly.new.buf c.args.text.now
    c.quickly.new.text q) c.in-More.is c.quickly.ensures in
    told_by_lem (memory c.args.buf.now c.args.words.now c.args.text.now c.args.item.now c.args.values.now) _ (told_at c.args.state _ _ More) h.0 h.1
    (c.tell_more.ensures c.args.item.now c.args.state (length c.args.piece.now) c.requires.5 c.requires.2 _
    c.quickly.new.text c.args.text.now)

pub returns-in-Item : goal.returns-in-Item
returns-in-Item c =
    let h = subst (λ (q : Reached). Answers c.args.state c.args.piece.now c.args.buf.now c.quickly.new.buf c.args.text.now
    c.quickly.new.text q) c.in-Item.is c.quickly.ensures in
    told_by_lem (memory c.args.buf.now c.args.words.now c.args.text.now c.args.item.now c.args.values.now) _ (told_at c.args.state _ _ (Item _)) h.0 h.1
    (c.tell_item.ensures c.args.state (length c.args.piece.now) c.requires.5 c.requires.2 _
    c.quickly.new.text c.args.text.now)

pub shape_of-buf-in-Before : goal.shape_of-buf-in-Before
shape_of-buf-in-Before c = c.read_plainly.auto.buf ∙ c.quickly.auto.buf

pub shape_of-words-in-Before : goal.shape_of-words-in-Before
shape_of-words-in-Before c = c.read_plainly.auto.words ∙ c.put_spot.auto.words

pub shape_of-text-in-Before : goal.shape_of-text-in-Before
shape_of-text-in-Before c = c.read_plainly.auto.text ∙ c.quickly.auto.text

pub returns-in-Before : goal.returns-in-Before
returns-in-Before c =
    let m = memory c.args.buf.now c.args.words.now c.args.text.now c.args.item.now c.args.values.now in
    let moves = c.quickly in
    let awaits = subst (λ (r : Reached). Answers c.args.state c.args.piece.now c.args.buf.now moves.new.buf c.args.text.now
    moves.new.text r) c.in-Before.is moves.ensures in
    c.read_plainly.ensures
    ∙ goes_on m c.args.state (length c.args.piece.now) c.requires.5 c.requires.2 c.in-Before.s c.args.piece.now moves.new.buf moves.new.text _
    c.put_spot.ensures awaits
