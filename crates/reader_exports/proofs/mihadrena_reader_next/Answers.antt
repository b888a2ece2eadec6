-- 22 and 27 leave all but the values; else the lexer's call fixes the reply and the text memory, and `tell_next` the rest.
use mathlib.Core.Path.{sym, ◌∙◌}
use lib.ListN.{length}
use Rattle.reader_exports.proofs.Words.{position_length}
use Rattle.reader_exports.proofs.Left.{room_record, too_few, no_position, told_on}
use Rattle.reader_exports.proofs.mihadrena_reader_next.Goals as goal

pub returns-then-not-is_room : goal.returns-then-not-is_room
returns-then-not-is_room c = too_few _ _ (sym c.is_room.ensures ∙ c.if-not-is_room.true) c.put_values.ensures

pub returns-then-not-is_position : goal.returns-then-not-is_position
returns-then-not-is_position c =
    no_position _ _ (sym c.is_room.ensures ∙ c.if-not-is_room.false)
    (sym c.is_position.ensures ∙ c.if-not-is_position.true) c.put_values-then-not-is_position.ensures

pub position_in-requires : goal.position_in-requires
position_in-requires c = sym c.is_position.ensures ∙ c.if-not-is_position.false

pub tell_next-requires : goal.tell_next-requires
tell_next-requires c = (
  position_length _ (sym c.is_position.ensures ∙ c.if-not-is_position.false),
  room_record _ (length c.args.values.now)
      (sym c.is_room.ensures ∙ c.if-not-is_room.false),
)

pub returns : goal.returns
returns c =
    told_on _ _ (sym c.is_room.ensures ∙ c.if-not-is_room.false)
    (sym c.is_position.ensures ∙ c.if-not-is_position.false)
    c.position_in.ensures c.next_at-answer.ensures (c.tell_next.ensures c.args.text.now _)
