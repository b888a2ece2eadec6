-- The records passed take `total` bytes, and none goes back (`Measuring`).
use mathlib.Core.Path.{refl, sym, ap, ◌∙◌}
use mathlib.Core.List.{List}
use Prim.Native.Nat.{ℕ}
use native.Mathlib.Omega.{arith}
use lib.ListN.{length}
use Rattle.items_files.specs.Groups.{images}
use Rattle.std.specs.Prelude.{Err}
use Rattle.items_files.specs.declared.StoreError.TheVariants.{Back}
use Rattle.items_files.proofs.Writer.{measuring_start, measuring_room, measuring_back, measuring_turn, measuring_end}
use Rattle.items_files.proofs.storing.measure.Goals as goal

pub loop-item-init : goal.loop-item-init
loop-item-init c = measuring_start c.args.words.now

pub record_at-record-requires : goal.record_at-record-requires
record_at-record-requires c =
    measuring_room c.args.words.now c.requires c.loop-item.invariant (omega (arith, c.loop-item-test.true))

pub returns-then-goes_back : goal.returns-then-goes_back
returns-then-goes_back c =
    let item : ℕ = c.loop-item.item in
    ap (λ (k : ℕ). Err (Back k)) (omega arith)
    ∙ measuring_back c.args.words.now c.requires c.loop-item.invariant (omega (arith, c.loop-item-test.true)) c.record_at-record.result
    c.record_at-record.ensures (sym c.goes_back.ensures ∙ c.if-goes_back.true)

pub numbers_of-requires : goal.numbers_of-requires
numbers_of-requires c = sym c.goes_back.ensures ∙ c.if-goes_back.false

pub counts-total-requires : goal.counts-total-requires
counts-total-requires c = ap (λ (l : List ℕ). length l) c.numbers_of.ensures

pub overflow_add-total : goal.overflow_add-total
overflow_add-total c =
    let next =
    measuring_turn c.args.words.now c.requires c.loop-item.invariant (omega (arith, c.loop-item-test.true))
    c.record_at-record.result c.record_at-record.ensures
    (sym c.goes_back.ensures ∙ c.if-goes_back.false)
    (c.counts-total.ensures ∙ ap (λ (l : List ℕ). length (images l)) c.numbers_of.ensures) refl in
    omega (arith, next.few, next.inside)

pub loop-item-preserved : goal.loop-item-preserved
loop-item-preserved c =
    measuring_turn c.args.words.now c.requires c.loop-item.invariant (omega (arith, c.loop-item-test.true))
    c.record_at-record.result c.record_at-record.ensures
    (sym c.goes_back.ensures ∙ c.if-goes_back.false)
    (c.counts-total.ensures ∙ ap (λ (l : List ℕ). length (images l)) c.numbers_of.ensures)
    (omega arith)

pub returns : goal.returns
returns c =
    measuring_end c.args.words.now c.requires c.loop-item.invariant (omega (arith, c.requires, c.loop-item-test.false))
