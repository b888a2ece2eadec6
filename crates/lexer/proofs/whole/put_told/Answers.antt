-- Each turn writes the record of the item that one look told, so that any writing that stood at the spot goes on past it and past the blanks
-- after it (ToldTurns). An item that is no bracket leaves the depth as it is.
use mathlib.Core.Path.{◌≡◌, sym, ap, ◌∙◌, subst}
use Prim.Native.Nat.{◌+◌, ◌-◌, ◌≤◌}
use native.Mathlib.Omega.{arith}
use lib.ListN.{length, take, drop}
use Rattle.laws.specs.Lent.{written}
use Rattle.laws.proofs.Lent.{length_part}
use Rattle.items.specs.Items.{record_words, words_of}
use Rattle.items.specs.declared.Record.{Record}
use Rattle.lexer.specs.Glance.{GlanceAt}
use Rattle.items_telling.specs.declared.Quick.{Quick}
use Rattle.items_telling.specs.declared.Quick.TheVariants.{Item, Bracket}
use Rattle.lexer.proofs.ToldTurns.{none_told, told-length, told_fits, told_room, told_smaller, told_on}
use Rattle.lexer.proofs.whole.put_told.Tie as tie
use Rattle.lexer.proofs.whole.put_told.Lts as lts
use Rattle.lexer.proofs.whole.put_told.Reads as reads
use Rattle.lexer.proofs.whole.put_told.Goals as goal

item-told : (c : lts.Past-After-known_told tie.the-claims reads.Pre reads.Post goal.the-invariant-loop-at goal.the-decreases-loop-at) → GlanceAt c.args.source.now c.args.p.report c.args.p.skip
    c.loop-at.at (Item c.in-Item.m c.in-Item.start c.in-Item.end)
item-told c =
    subst (λ (q : Quick). GlanceAt c.args.source.now c.args.p.report c.args.p.skip c.loop-at.at q)
    c.in-Item.is c.quick_at.ensures

item_room : (c : lts.Past-After-known_told tie.the-claims reads.Pre reads.Post goal.the-invariant-loop-at goal.the-decreases-loop-at) → c.loop-at.w + record_words ≤ length c.loop-at.recs
item_room c =
    let t = item-told c in
    told_room c.args.source.now c.args.p c.args.recs.now c.args.free c.args.deep c.args.from c.requires.1
    c.loop-at.at c.loop-at.invariant.1 c.in-Item.start c.in-Item.end c.in-Item.m (t.0, t.1, t.2)

item-same : (c : lts.Past-After-known_told tie.the-claims reads.Pre reads.Post goal.the-invariant-loop-at goal.the-decreases-loop-at) → length c.loop-at.recs ≡ length c.args.recs.now
item-same c =
    told-length c.args.source.now c.args.p c.args.recs.now c.args.free c.args.deep c.args.from c.requires.1
    c.loop-at.at c.loop-at.invariant.1

bracket-told : (c : lts.Past-After-known_told2 tie.the-claims reads.Pre reads.Post goal.the-invariant-loop-at goal.the-decreases-loop-at) → GlanceAt c.args.source.now
    c.args.p.report c.args.p.skip
    c.loop-at.at (Bracket c.in-Bracket.m c.in-Bracket.start c.in-Bracket.end)
bracket-told c =
    subst (λ (q : Quick). GlanceAt c.args.source.now c.args.p.report c.args.p.skip c.loop-at.at q)
    c.in-Bracket.is c.quick_at.ensures

bracket-room : (c : lts.Past-After-known_told2 tie.the-claims reads.Pre reads.Post goal.the-invariant-loop-at goal.the-decreases-loop-at) → c.loop-at.w + record_words ≤ length c.loop-at.recs
bracket-room c =
    let t = bracket-told c in
    told_room c.args.source.now c.args.p c.args.recs.now c.args.free c.args.deep c.args.from c.requires.1
    c.loop-at.at c.loop-at.invariant.1 c.in-Bracket.start c.in-Bracket.end c.in-Bracket.m (t.0, t.1, t.2)

bracket-same : (c : lts.Past-After-known_told2 tie.the-claims reads.Pre reads.Post goal.the-invariant-loop-at goal.the-decreases-loop-at) → length c.loop-at.recs ≡ length c.args.recs.now
bracket-same c =
    told-length c.args.source.now c.args.p c.args.recs.now c.args.free c.args.deep c.args.from c.requires.1
    c.loop-at.at c.loop-at.invariant.1

pub loop-at-init : goal.loop-at-init
loop-at-init c = (
  omega arith,
  none_told c.args.source.now c.args.p c.args.recs.now c.args.free c.args.deep c.args.from c.past_blanks-at.result
      c.past_blanks-at.ensures,
)

pub quick_at-requires : goal.quick_at-requires
quick_at-requires c = (c.requires.0, c.loop-at-test.true, c.requires.2)

pub offset_bounds-recs-w : goal.offset_bounds-recs-w
offset_bounds-recs-w c = omega (arith, item_room c.before, item-same c.before)

pub slice_bounds-put-count : goal.slice_bounds-put-count
slice_bounds-put-count c = omega (arith, item_room c.before)

pub slice_bounds-put-start : goal.slice_bounds-put-start
slice_bounds-put-start c = omega (arith, item_room c.before)

pub record_at-requires : goal.record_at-requires
record_at-requires c =
    let t = item-told c.before.before in
    told_fits c.args.source.now c.args.p c.args.recs.now c.args.free c.args.deep c.args.from c.requires.1
    c.loop-at.at c.loop-at.invariant.1 c.in-Item.start c.in-Item.end c.in-Item.m (t.0, t.1, t.2) c.requires.0

pub put-requires : goal.put-requires
put-requires c = let l = c.loop-at in omega (arith, item_room c.before.before.before, length_part l.recs l.w)

pub overflow_add-w : goal.overflow_add-w
overflow_add-w c =
    omega (arith, item_room c.before.before.before.before.before.before, item-same c.before.before.before.before.before.before)

pub loop-at-smaller-in-Item : goal.loop-at-smaller-in-Item
loop-at-smaller-in-Item c =
    let t = item-told c.before.before.before.before.before.before.before in
    told_smaller c.args.source.now c.args.p c.args.recs.now c.args.free c.args.deep c.args.from c.requires.1
    c.loop-at.at c.loop-at.invariant.1 c.in-Item.start c.in-Item.end c.in-Item.m (t.0, t.1, t.2)
    c.past_blanks-at-in-Item.result c.past_blanks-at-in-Item.ensures c.loop-at.invariant.0

pub loop-at-preserved-in-Item : goal.loop-at-preserved-in-Item
loop-at-preserved-in-Item c =
    let t = item-told c.before.before.before.before.before.before.before in (
      omega (arith, c.loop-at.invariant.0),
      told_on c.args.source.now c.args.p c.args.recs.now c.args.free c.args.deep c.args.from c.requires.1
          c.loop-at.at c.loop-at.invariant.1 c.in-Item.start c.in-Item.end c.in-Item.m (t.0, t.1, t.2)
          c.past_blanks-at-in-Item.result c.past_blanks-at-in-Item.ensures c.loop-at.invariant.0 c.loop-at.depth (sym (t.3 c.loop-at.depth))
          (c.put.ensures
          ∙ ap (λ (x : Record). written (words_of x) (take (length c.loop-at.recs - c.loop-at.w) (drop c.loop-at.w c.loop-at.recs)))
          c.record_at.ensures),
    )

pub offset_bounds-recs-w-in-Bracket : goal.offset_bounds-recs-w-in-Bracket
offset_bounds-recs-w-in-Bracket c = omega (arith, bracket-room c.before, bracket-same c.before)

pub slice_bounds-put-count-in-Bracket : goal.slice_bounds-put-count-in-Bracket
slice_bounds-put-count-in-Bracket c = omega (arith, bracket-room c.before)

pub slice_bounds-put-start-in-Bracket : goal.slice_bounds-put-start-in-Bracket
slice_bounds-put-start-in-Bracket c = omega (arith, bracket-room c.before)

pub record_at-requires-in-Bracket : goal.record_at-requires-in-Bracket
record_at-requires-in-Bracket c =
    let t = bracket-told c.before.before in
    told_fits c.args.source.now c.args.p c.args.recs.now c.args.free c.args.deep c.args.from c.requires.1
    c.loop-at.at c.loop-at.invariant.1 c.in-Bracket.start c.in-Bracket.end c.in-Bracket.m (t.0, t.1, t.2) c.requires.0

pub put-requires-in-Bracket : goal.put-requires-in-Bracket
put-requires-in-Bracket c = let l = c.loop-at in omega (arith, bracket-room c.before.before.before, length_part l.recs l.w)

pub overflow_add-w-in-Bracket : goal.overflow_add-w-in-Bracket
overflow_add-w-in-Bracket c =
    omega (arith, bracket-room c.before.before.before.before.before.before.before, bracket-same c.before.before.before.before.before.before.before)

pub loop-at-smaller : goal.loop-at-smaller
loop-at-smaller c =
    let t = bracket-told c.before.before.before.before.before.before.before.before in
    told_smaller c.args.source.now c.args.p c.args.recs.now c.args.free c.args.deep c.args.from c.requires.1
    c.loop-at.at c.loop-at.invariant.1 c.in-Bracket.start c.in-Bracket.end c.in-Bracket.m (t.0, t.1, t.2)
    c.past_blanks-at-in-Bracket.result c.past_blanks-at-in-Bracket.ensures c.loop-at.invariant.0

pub loop-at-preserved : goal.loop-at-preserved
loop-at-preserved c =
    let t = bracket-told c.before.before.before.before.before.before.before.before in (
      omega (arith, c.loop-at.invariant.0),
      told_on c.args.source.now c.args.p c.args.recs.now c.args.free c.args.deep c.args.from c.requires.1
          c.loop-at.at c.loop-at.invariant.1 c.in-Bracket.start c.in-Bracket.end c.in-Bracket.m (t.0, t.1, t.2)
          c.past_blanks-at-in-Bracket.result c.past_blanks-at-in-Bracket.ensures c.loop-at.invariant.0 c.depth_after-depth.result c.depth_after-depth.ensures
          (c.put-in-Bracket.ensures
          ∙ ap (λ (x : Record). written (words_of x) (take (length c.loop-at.recs - c.loop-at.w) (drop c.loop-at.w c.loop-at.recs)))
          c.record_at-in-Bracket.ensures),
    )

pub shape_of-recs-in-Other : goal.shape_of-recs-in-Other
shape_of-recs-in-Other c =
    told-length c.args.source.now c.args.p c.args.recs.now c.args.free c.args.deep c.args.from c.requires.1
    c.loop-at.at c.loop-at.invariant.1

pub returns-in-Other : goal.returns-in-Other
returns-in-Other c = c.loop-at.invariant

pub shape_of-recs : goal.shape_of-recs
shape_of-recs c =
    told-length c.args.source.now c.args.p c.args.recs.now c.args.free c.args.deep c.args.from c.requires.1
    c.loop-at.at c.loop-at.invariant.1

pub returns : goal.returns
returns c = c.loop-at.invariant
