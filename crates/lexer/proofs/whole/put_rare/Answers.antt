-- As in `put_told`: each turn writes the record of the item that one look told, and any writing that stood at the spot goes on past it
-- (ToldTurns). None is a bracket, so that the depth stays.
use mathlib.Core.Path.{◌≡◌, refl, sym, ap, ◌∙◌, subst}
use Prim.Native.Nat.{◌+◌, ◌-◌, ◌≤◌}
use native.Mathlib.Omega.{arith}
use lib.ListN.{length, take, drop}
use Rattle.laws.specs.Lent.{written}
use Rattle.laws.proofs.Lent.{length_part}
use Rattle.items.specs.Items.{record_words, words_of}
use Rattle.items.specs.declared.Record.{Record}
use Rattle.lexer.specs.Glance.{GlanceAt}
use Rattle.items_telling.specs.declared.Quick.{Quick}
use Rattle.items_telling.specs.declared.Quick.TheVariants.{Item}
use Rattle.lexer.proofs.ToldTurns.{none_told, told-length, told_fits, told_forward, told_room, told_on}
use Rattle.lexer.proofs.whole.put_rare.Tie as tie
use Rattle.lexer.proofs.whole.put_rare.Lts as lts
use Rattle.lexer.proofs.whole.put_rare.Reads as reads
use Rattle.lexer.proofs.whole.put_rare.Goals as goal

item-told : (c : lts.Past-After-known_told tie.the-claims reads.Pre reads.Post goal.the-invariant-loop-at goal.the-decreases-loop-at) → GlanceAt c.args.source.now c.args.p.report c.args.p.skip
    c.loop-at.at (Item c.in-Item.m c.in-Item.start c.in-Item.end)
item-told c =
    let a = c.args in
    subst (λ (q : Quick). GlanceAt a.source.now a.p.report a.p.skip c.loop-at.at q) c.in-Item.is (c.quick_rare.ensures a.p.skip)

item_room : (c : lts.Past-After-known_told tie.the-claims reads.Pre reads.Post goal.the-invariant-loop-at goal.the-decreases-loop-at) → c.loop-at.w + record_words ≤ length c.loop-at.recs
item_room c =
    let a = c.args in
    let t = item-told c in
    told_room a.source.now a.p a.recs.now a.free a.deep a.from c.requires.1
    c.loop-at.at c.loop-at.invariant.1 c.in-Item.start c.in-Item.end c.in-Item.m (t.0, t.1, t.2)

item-same : (c : lts.Past-After-known_told tie.the-claims reads.Pre reads.Post goal.the-invariant-loop-at goal.the-decreases-loop-at) → length c.loop-at.recs ≡ length c.args.recs.now
item-same c =
    let a = c.args in
    told-length a.source.now a.p a.recs.now a.free a.deep a.from c.requires.1 c.loop-at.at c.loop-at.invariant.1

pub loop-at-init : goal.loop-at-init
loop-at-init c =
    let a = c.args in
    (omega arith, none_told a.source.now a.p a.recs.now a.free a.deep a.from a.p.at (omega arith, refl))

pub quick_rare-requires : goal.quick_rare-requires
quick_rare-requires c = (c.requires.0, c.loop-at-test.true, c.requires.2)

pub offset_bounds-recs-w : goal.offset_bounds-recs-w
offset_bounds-recs-w c = omega (arith, item_room c.before, item-same c.before)

pub slice_bounds-put-count : goal.slice_bounds-put-count
slice_bounds-put-count c = omega (arith, item_room c.before)

pub slice_bounds-put-start : goal.slice_bounds-put-start
slice_bounds-put-start c = omega (arith, item_room c.before)

pub record_at-requires : goal.record_at-requires
record_at-requires c =
    let t = item-told c.before.before in
    told_fits c.args.source.now c.args.p c.args.recs.now c.args.free c.args.deep c.args.from c.requires.1
    c.loop-at.at c.loop-at.invariant.1 c.in-Item.start c.in-Item.end c.in-Item.m (t.0, t.1, t.2) c.requires.0

pub put-requires : goal.put-requires
put-requires c = let l = c.loop-at in omega (arith, item_room c.before.before.before, length_part l.recs l.w)

pub overflow_add-w : goal.overflow_add-w
overflow_add-w c =
    omega (arith, item_room c.before.before.before.before.before.before, item-same c.before.before.before.before.before.before)

pub loop-at-smaller : goal.loop-at-smaller
loop-at-smaller c =
    let t = item-told c.before.before.before.before.before.before.before in
    omega (
      arith,
      told_forward c.args.source.now c.args.p c.args.recs.now c.args.free c.args.deep c.args.from c.requires.1
          c.loop-at.at c.loop-at.invariant.1 c.in-Item.start c.in-Item.end c.in-Item.m (t.0, t.1, t.2),
      c.past_blanks-at.ensures.0,
      c.loop-at-test.true,
    )

pub loop-at-preserved : goal.loop-at-preserved
loop-at-preserved c =
    let a = c.args in
    let t = item-told c.before.before.before.before.before.before.before in
    let so = c.loop-at.invariant in (
      omega (arith, so.0),
      told_on a.source.now a.p a.recs.now a.free a.deep a.from c.requires.1
          c.loop-at.at so.1 c.in-Item.start c.in-Item.end c.in-Item.m (t.0, t.1, t.2)
          c.past_blanks-at.result c.past_blanks-at.ensures so.0 a.deep (sym (t.3 a.deep))
          (c.put.ensures
          ∙ ap (λ (x : Record). written (words_of x) (take (length c.loop-at.recs - c.loop-at.w) (drop c.loop-at.w c.loop-at.recs)))
          c.record_at.ensures),
    )

pub shape_of-recs-in_default : goal.shape_of-recs-in_default
shape_of-recs-in_default c =
    told-length c.args.source.now c.args.p c.args.recs.now c.args.free c.args.deep c.args.from c.requires.1
    c.loop-at.at c.loop-at.invariant.1

pub returns-in_default : goal.returns-in_default
returns-in_default c = c.loop-at.invariant

pub shape_of-recs : goal.shape_of-recs
shape_of-recs c =
    told-length c.args.source.now c.args.p c.args.recs.now c.args.free c.args.deep c.args.from c.requires.1
    c.loop-at.at c.loop-at.invariant.1

pub returns : goal.returns
returns c = c.loop-at.invariant
