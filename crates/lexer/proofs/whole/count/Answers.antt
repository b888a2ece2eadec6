-- Those that are done are counted; each turn adds the items that one look after the other tells (count_told), then one item, and at the end
-- all are done: past the last byte there is no further item.
use mathlib.Core.Path.{◌≡◌, refl, sym, ap, ◌∙◌, subst}
use mathlib.Core.List.{[], ◌∷◌, ◌++◌}
use Prim.Native.Nat.{ℕ}
use native.Mathlib.Omega.{arith}
use lib.ListN.{length-append}
use Rattle.lexer.specs.Reading.{next_at, found_of, size_of, one_found}
use Rattle.lexer.specs.declared.Spot.{Spot}
use Rattle.lexer.specs.Writing.{Going, Counting, told_to}
use Rattle.lexer.proofs.ReadingOn.{going, going_on, counted, it, it_moved, size_le}
use Rattle.lexer.proofs.Writing.{past_end}
use Rattle.lexer.proofs.whole.count.Tie as tie
use Rattle.lexer.proofs.whole.count.Lts as lts
use Rattle.lexer.proofs.whole.count.Reads as reads
use Rattle.lexer.proofs.whole.count.Goals as goal

-- with what `count_told` counted
told : (c : lts.After-count_told tie.the-claims reads.Pre reads.Post goal.the-invariant-loop-p goal.the-decreases-loop-p) → Counting c.args.source.now c.args.spot
    (told_to c.loop-p.p c.count_told-told.result.at c.loop-p.n c.count_told-told.result.items) c.loop-p.free c.count_told-told.result.items
told c = c.count_told-told.ensures.on c.args.spot c.loop-p.free c.loop-p.invariant

stood : (c : lts.After-spot_past tie.the-claims reads.Pre reads.Post goal.the-invariant-loop-p goal.the-decreases-loop-p) → Counting c.args.source.now c.args.spot
    c.spot_past-p.result c.loop-p.free c.count_told-told.result.items
stood c =
    subst (λ (q : Spot). Counting c.args.source.now c.args.spot q c.loop-p.free c.count_told-told.result.items)
    (sym c.spot_past-p.ensures) (told c.before.before.before)

one : (c : lts.Past-After-known_told tie.the-claims reads.Pre reads.Post goal.the-invariant-loop-p goal.the-decreases-loop-p) → one_found c.in-Some.found.nine c.in-Some.found.after
    ≡ found_of c.loop-p.free (next_at c.args.source.now c.spot_past-p.result)
one c = sym c.in-Some.is ∙ c.next_item.ensures

pub loop-p-init : goal.loop-p-init
loop-p-init c = record { done = []; going = going c.args.source.now c.args.spot; count = refl }

pub count_told-told-requires : goal.count_told-told-requires
count_told-told-requires c =
    (c.requires.0, record { start = c.args.spot; free = c.loop-p.free; counting = c.loop-p.invariant }, c.requires.1)

pub returns-then-source-told : goal.returns-then-source-told
returns-then-source-told c =
    let l = c.loop-p in
    let there = c.count_told-told.result in
    let q = told_to l.p there.at l.n there.items in
    let g = told c.before.before.before in
    counted c.args.source.now c.args.spot q l.free g.done g.going there.items g.count
    (past_end c.args.source.now q l.free c.if-source-told.true)

pub next_item-requires : goal.next_item-requires
next_item-requires c = (c.requires.0, (stood c.before).going.behind)

pub overflow_add-n : goal.overflow_add-n
overflow_add-n c =
    let g = stood c.before.before.before in
    omega (arith, g.going.few, g.count, size_le c.args.source.now c.args.spot, c.requires.0)

pub loop-p-smaller : goal.loop-p-smaller
loop-p-smaller c =
    let g = stood c.before.before.before.before.before.before in
    omega (
      arith,
      (it_moved c.args.source.now c.args.spot c.spot_past-p.result
          c.loop-p.free g.done g.going
          c.in-Some.found.nine c.in-Some.found.after (one c.before.before.before.before)).smaller,
      c.count_told-told.ensures.ahead,
      ap (size_of c.args.source.now) c.spot_past-p.ensures,
    )

pub loop-p-preserved : goal.loop-p-preserved
loop-p-preserved c =
    let s = c.args.source.now in
    let p = c.spot_past-p.result in
    let free = c.loop-p.free in
    let r = c.in-Some.found.nine in
    let q = c.in-Some.found.after in
    let g = stood c.before.before.before.before.before.before in
    let done = g.done ++ (it s c.args.spot p free g.done g.going r q (one c.before.before.before.before) ∷ []) in
    record {
      done = done;
      going = subst (λ (x : ℕ). Going s c.args.spot q x done) (sym c.free_after-free.ensures)
          (going_on s c.args.spot p free g.done g.going r q (one c.before.before.before.before));
      count = length-append g.done (it s c.args.spot p free g.done g.going r q (one c.before.before.before.before) ∷ []) ∙ omega (arith, g.count);
    }

pub returns-in_default : goal.returns-in_default
returns-in_default c =
    let g = stood c.before.before.before in
    counted c.args.source.now c.args.spot c.spot_past-p.result c.loop-p.free g.done g.going
    c.count_told-told.result.items g.count (sym c.in_default.is ∙ c.next_item.ensures)
