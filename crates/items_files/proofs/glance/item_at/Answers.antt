-- What each look tells makes the item's parts, and they its record (`light_item`).
use native.Mathlib.Omega.{arith}
use Rattle.items_files.proofs.LightItems.{light_item}
use Rattle.items_files.proofs.glance.item_at.Goals as goal

pub overflow_add-at : goal.overflow_add-at
overflow_add-at c =
    let head = c.light_head.ensures c.if-light_head.true in
    omega (arith, head.room)

pub brief_at-requires : goal.brief_at-requires
brief_at-requires c =
    let head = c.light_head.ensures c.if-light_head.true in
    omega (arith, head.room)

pub pair_at-requires : goal.pair_at-requires
pair_at-requires c =
    let head = c.light_head.ensures c.if-light_head.true in
    let place = c.in_ok-place.ensures in
    omega (arith, head.room, place.near)

pub overflow_add-place : goal.overflow_add-place
overflow_add-place c =
    let head = c.light_head.ensures c.if-light_head.true in
    let place = c.in_ok-place.ensures in
    omega (arith, head.room, place.near)

pub brief_at-requires-then-pair_at : goal.brief_at-requires-then-pair_at
brief_at-requires-then-pair_at c =
    let head = c.light_head.ensures c.if-light_head.true in
    let place = c.in_ok-place.ensures in
    omega (arith, head.room, place.near)

pub pair_at-requires-then-pair_at : goal.pair_at-requires-then-pair_at
pair_at-requires-then-pair_at c =
    let head = c.light_head.ensures c.if-light_head.true in
    let place = c.in_ok-place.ensures in
    let text = c.in_ok-text.ensures in
    omega (arith, head.room, place.near, text.near)

pub light_record-requires : goal.light_record-requires
light_record-requires c = record {
  head = c.light_head.ensures c.if-light_head.true;
  place = c.in_ok-place.ensures;
  place_pair = c.pair_at.ensures c.if-pair_at.true;
  text = c.in_ok-text.ensures;
  text_pair = c.pair_at-then-pair_at.ensures c.if-pair_at-2.true;
}

pub overflow_add-result : goal.overflow_add-result
overflow_add-result c =
    let head = c.light_head.ensures c.if-light_head.true in
    let place = c.in_ok-place.ensures in
    let text = c.in_ok-text.ensures in
    omega (arith, head.room, place.near, text.near)

pub returns-then-pair_at-2 : goal.returns-then-pair_at-2
returns-then-pair_at-2 c =
    rw c.light_record.ensures (light_item c.args.file.now c.args.at c.args.b
    (record {
      head = c.light_head.ensures c.if-light_head.true;
      place = c.in_ok-place.ensures;
      place_pair = c.pair_at.ensures c.if-pair_at.true;
      text = c.in_ok-text.ensures;
      text_pair = c.pair_at-then-pair_at.ensures c.if-pair_at-2.true;
    }))
