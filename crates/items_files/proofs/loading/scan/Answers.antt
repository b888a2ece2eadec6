-- The numbers passed, one by one or an item's ten at once, are the words before n (`Scanning`).
use native.Mathlib.Omega.{arith}
use Prim.Native.Nat.{◌+◌, ◌-◌}
use mathlib.Core.Path.{sym, subst, ◌∙◌}
use Rattle.items_files.specs.Glance.{EndAt}
use Rattle.items_files.proofs.Reader.{next_place, scanning_start, scanning_word, scanning_over, scanning_wrong, scanning_cut, scanning_all, scanning_short}
use Rattle.items_files.proofs.LightItems.{scanning_item}
use Rattle.items_files.proofs.loading.scan.Goals as goal

pub loop-i-init : goal.loop-i-init
loop-i-init c =
    rw c.at_first-b.ensures (scanning_start c.args.file.now)

pub overflow_add-i : goal.overflow_add-i
overflow_add-i c =
    let light = subst (EndAt c.args.file.now c.loop-i.i c.loop-i.b) c.in-Some.is c.item_end.ensures in
    omega (arith, light.item.ahead, light.item.inside)

pub bounds-file-i : goal.bounds-file-i
bounds-file-i c =
    let light = subst (EndAt c.args.file.now c.loop-i.i c.loop-i.b) c.in-Some.is c.item_end.ensures in
    omega (arith, light.item.ahead, light.item.inside)

pub overflow_cast-file : goal.overflow_cast-file
overflow_cast-file c =
    omega (arith, c.shared_slice_known-in-Some-1.given (c.loop-i.i + 2))

pub overflow_add-b : goal.overflow_add-b
overflow_add-b c =
    let light = subst (EndAt c.args.file.now c.loop-i.i c.loop-i.b) c.in-Some.is c.item_end.ensures in
    omega (arith, light.fits)

pub overflow_sub-past : goal.overflow_sub-past
overflow_sub-past c =
    let light = subst (EndAt c.args.file.now c.loop-i.i c.loop-i.b) c.in-Some.is c.item_end.ensures in
    omega (arith, light.item.ahead, light.item.inside)

pub bounds-file-past : goal.bounds-file-past
bounds-file-past c =
    let light = subst (EndAt c.args.file.now c.loop-i.i c.loop-i.b) c.in-Some.is c.item_end.ensures in
    omega (arith, light.item.ahead, light.item.inside)

pub overflow_cast-file-in-Some : goal.overflow_cast-file-in-Some
overflow_cast-file-in-Some c =
    omega (arith, c.shared_slice_known-in-Some-2-1.given (c.in-Some.past - 1))

pub overflow_add-n : goal.overflow_add-n
overflow_add-n c =
    let light = subst (EndAt c.args.file.now c.loop-i.i c.loop-i.b) c.in-Some.is c.item_end.ensures in
    omega (arith, light.item.ahead, light.item.inside, c.loop-i.invariant.few)

pub loop-i-smaller-in-Some : goal.loop-i-smaller-in-Some
loop-i-smaller-in-Some c =
    let light = subst (EndAt c.args.file.now c.loop-i.i c.loop-i.b) c.in-Some.is c.item_end.ensures in
    omega (arith, light.item.ahead, light.item.inside)

pub loop-i-preserved-in-Some : goal.loop-i-preserved-in-Some
loop-i-preserved-in-Some c =
    let light = subst (EndAt c.args.file.now c.loop-i.i c.loop-i.b) c.in-Some.is c.item_end.ensures in
    scanning_item c.args.file.now c.loop-i.b c.loop-i.n c.loop-i.i c.loop-i.invariant light.item (c.after_item-b.ensures ∙ rw (← light.start, ← light.depth))

pub number_at-requires : goal.number_at-requires
number_at-requires c = c.loop-i-test.true

pub returns-then-word-gt-LARGEST_NUMBER : goal.returns-then-word-gt-LARGEST_NUMBER
returns-then-word-gt-LARGEST_NUMBER c =
    scanning_over c.args.file.now c.loop-i.b c.loop-i.n c.loop-i.i c.loop-i.invariant
    c.loop-i-test.true (sym c.in-Ok.is
    ∙ c.number_at.ensures) c.base_of.ensures c.if-word-gt-LARGEST_NUMBER.true

pub overflow_add-n-in-Ok : goal.overflow_add-n-in-Ok
overflow_add-n-in-Ok c =
    omega (arith, c.loop-i.invariant.few)

pub loop-i-smaller : goal.loop-i-smaller
loop-i-smaller c =
    omega (
      arith,
      (next_place c.args.file.now c.loop-i.i _ _ c.loop-i.invariant.inside
          (sym c.in-Ok.is ∙ c.number_at.ensures)).0,
    )

pub loop-i-preserved : goal.loop-i-preserved
loop-i-preserved c =
    scanning_word c.args.file.now c.loop-i.b c.loop-i.n c.loop-i.i c.loop-i.invariant
    c.loop-i-test.true
    (sym c.in-Ok.is ∙ c.number_at.ensures)
    c.base_of.ensures c.if-word-gt-LARGEST_NUMBER.false c.after_word-b.ensures

pub returns-in-Err-Wrong : goal.returns-in-Err-Wrong
returns-in-Err-Wrong c =
    scanning_wrong c.args.file.now c.loop-i.b c.loop-i.n c.loop-i.i c.loop-i.invariant
    c.loop-i-test.true (cc)

pub returns-in-Err-Cut : goal.returns-in-Err-Cut
returns-in-Err-Cut c =
    scanning_cut c.args.file.now c.loop-i.b c.loop-i.n c.loop-i.i c.loop-i.invariant
    c.loop-i-test.true (cc)

pub returns-then-b-eq0 : goal.returns-then-b-eq0
returns-then-b-eq0 c =
    scanning_all c.args.file.now c.loop-i.b c.loop-i.n c.loop-i.i c.loop-i.invariant c.loop-i-test.false c.if-b-eq0.true

pub returns : goal.returns
returns c =
    scanning_short c.args.file.now c.loop-i.b c.loop-i.n c.loop-i.i c.loop-i.invariant c.loop-i-test.false c.if-b-eq0.false
