-- What each look tells makes the item's parts (`light_to`).
use native.Mathlib.Omega.{arith}
use Rattle.items_files.proofs.LightItems.{light_to}
use Rattle.items_files.proofs.glance.item_end.Goals as goal

pub overflow_add-at : goal.overflow_add-at
overflow_add-at c =
    let head = c.light_head.ensures c.if-light_head.true in
    omega (arith, head.room)

pub brief_at-requires : goal.brief_at-requires
brief_at-requires c =
    let head = c.light_head.ensures c.if-light_head.true in
    omega (arith, head.room)

pub pair_at-requires : goal.pair_at-requires
pair_at-requires c =
    let head = c.light_head.ensures c.if-light_head.true in
    let place = c.in_ok-i.ensures in
    omega (arith, head.room, place.near)

pub overflow_add-i : goal.overflow_add-i
overflow_add-i c =
    let head = c.light_head.ensures c.if-light_head.true in
    let place = c.in_ok-i.ensures in
    omega (arith, head.room, place.near)

pub brief_at-requires-then-pair_at : goal.brief_at-requires-then-pair_at
brief_at-requires-then-pair_at c =
    let head = c.light_head.ensures c.if-light_head.true in
    let place = c.in_ok-i.ensures in
    omega (arith, head.room, place.near)

pub pair_at-requires-then-pair_at : goal.pair_at-requires-then-pair_at
pair_at-requires-then-pair_at c =
    let head = c.light_head.ensures c.if-light_head.true in
    let place = c.in_ok-i.ensures in
    let text = c.in_ok-j.ensures in
    omega (arith, head.room, place.near, text.near)

pub overflow_add-result : goal.overflow_add-result
overflow_add-result c =
    let head = c.light_head.ensures c.if-light_head.true in
    let place = c.in_ok-i.ensures in
    let text = c.in_ok-j.ensures in
    omega (arith, head.room, place.near, text.near)

pub returns-then-pair_at-2 : goal.returns-then-pair_at-2
returns-then-pair_at-2 c =
    light_to c.args.file.now c.args.at c.args.b
    (record {
      head = c.light_head.ensures c.if-light_head.true;
      place = c.in_ok-i.ensures;
      place_pair = c.pair_at.ensures c.if-pair_at.true;
      text = c.in_ok-j.ensures;
      text_pair = c.pair_at-then-pair_at.ensures c.if-pair_at-2.true;
    })
