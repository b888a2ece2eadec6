-- The words passed, one by one or a record at once, lie in the memory (`Filling`).
use native.Mathlib.Omega.{arith}
use mathlib.Core.Path.{sym, subst, ◌∙◌}
use Rattle.laws.proofs.Lent.{length_part}
use Rattle.items_files.specs.Glance.{LightAt}
use Rattle.items_files.proofs.Reader.{next_place, never_failing}
use Rattle.items_files.proofs.Filler.{filling_start, filling_length, filling_end, filling_sum, filling_room, filling_word, filling_fits, filling_item}
use Rattle.items_files.proofs.loading.fill.Goals as goal

pub loop-i-init : goal.loop-i-init
loop-i-init c =
    rw c.at_first-b.ensures (filling_start c.args.file.now c.args.records.now)

pub offset_bounds-records-n : goal.offset_bounds-records-n
offset_bounds-records-n c =
    let light = subst (LightAt c.args.file.now c.loop-i.i c.loop-i.b) c.in-Some.is c.item_at.ensures in
    omega (
      arith,
      filling_fits c.args.file.now c.args.records.now c.loop-i.b c.loop-i.n c.loop-i.i c.requires.0
          c.requires.1 c.loop-i.invariant light,
      filling_length c.args.file.now c.args.records.now c.loop-i.b c.loop-i.n c.loop-i.i
          c.requires.0 c.requires.1 c.loop-i.invariant,
    )

pub slice_bounds-put-count : goal.slice_bounds-put-count
slice_bounds-put-count c =
    let light = subst (LightAt c.args.file.now c.loop-i.i c.loop-i.b) c.in-Some.is c.item_at.ensures in
    omega (
      arith,
      filling_fits c.args.file.now c.args.records.now c.loop-i.b c.loop-i.n c.loop-i.i c.requires.0
          c.requires.1 c.loop-i.invariant light,
      filling_length c.args.file.now c.args.records.now c.loop-i.b c.loop-i.n c.loop-i.i
          c.requires.0 c.requires.1 c.loop-i.invariant,
    )

pub slice_bounds-put-start : goal.slice_bounds-put-start
slice_bounds-put-start c =
    let light = subst (LightAt c.args.file.now c.loop-i.i c.loop-i.b) c.in-Some.is c.item_at.ensures in
    omega (
      arith,
      filling_fits c.args.file.now c.args.records.now c.loop-i.b c.loop-i.n c.loop-i.i c.requires.0
          c.requires.1 c.loop-i.invariant light,
      filling_length c.args.file.now c.args.records.now c.loop-i.b c.loop-i.n c.loop-i.i
          c.requires.0 c.requires.1 c.loop-i.invariant,
    )

pub slice_bounds-put-end : goal.slice_bounds-put-end
slice_bounds-put-end c =
    let light = subst (LightAt c.args.file.now c.loop-i.i c.loop-i.b) c.in-Some.is c.item_at.ensures in
    omega (
      arith,
      filling_fits c.args.file.now c.args.records.now c.loop-i.b c.loop-i.n c.loop-i.i c.requires.0
          c.requires.1 c.loop-i.invariant light,
      filling_length c.args.file.now c.args.records.now c.loop-i.b c.loop-i.n c.loop-i.i
          c.requires.0 c.requires.1 c.loop-i.invariant,
    )

pub put-requires : goal.put-requires
put-requires c =
    let light = subst (LightAt c.args.file.now c.loop-i.i c.loop-i.b) c.in-Some.is c.item_at.ensures in
    omega (
      arith,
      filling_fits c.args.file.now c.args.records.now c.loop-i.b c.loop-i.n c.loop-i.i c.requires.0
          c.requires.1 c.loop-i.invariant light,
      length_part c.loop-i.records c.loop-i.n,
    )

pub overflow_add-n : goal.overflow_add-n
overflow_add-n c =
    let light = subst (LightAt c.args.file.now c.loop-i.i c.loop-i.b) c.in-Some.is c.item_at.ensures in
    omega (arith, light.ahead, light.inside, c.loop-i.invariant.scan.few)

pub loop-i-smaller-in-Some : goal.loop-i-smaller-in-Some
loop-i-smaller-in-Some c =
    let light = subst (LightAt c.args.file.now c.loop-i.i c.loop-i.b) c.in-Some.is c.item_at.ensures in
    omega (arith, light.ahead, light.inside)

pub loop-i-preserved-in-Some : goal.loop-i-preserved-in-Some
loop-i-preserved-in-Some c =
    let light = subst (LightAt c.args.file.now c.loop-i.i c.loop-i.b) c.in-Some.is c.item_at.ensures in
    filling_item c.args.file.now c.args.records.now c.loop-i.b c.loop-i.n c.loop-i.i c.requires.0 c.requires.1
    c.loop-i.invariant light c.after_item-b.ensures c.put.ensures

pub number_at-requires : goal.number_at-requires
number_at-requires c = c.loop-i-test.true

pub overflow_add-w : goal.overflow_add-w
overflow_add-w c =
    omega (
      arith,
      filling_sum c.args.file.now c.args.records.now c.loop-i.b c.loop-i.n c.loop-i.i c.requires.0
          c.requires.1 c.loop-i.invariant c.loop-i-test.true
          (sym c.in-Ok.is ∙ c.number_at.ensures) c.base_of.ensures,
    )

pub offset_bounds-records-n-in_default : goal.offset_bounds-records-n-in_default
offset_bounds-records-n-in_default c =
    omega (
      arith,
      filling_room c.args.file.now c.args.records.now c.loop-i.b c.loop-i.n c.loop-i.i c.requires.0
          c.requires.1 c.loop-i.invariant c.loop-i-test.true
          (sym c.in-Ok.is ∙ c.number_at.ensures) c.base_of.ensures,
      filling_length c.args.file.now c.args.records.now c.loop-i.b c.loop-i.n c.loop-i.i c.requires.0 c.requires.1 c.loop-i.invariant,
    )

pub bounds-records-n : goal.bounds-records-n
bounds-records-n c =
    filling_room c.args.file.now c.args.records.now c.loop-i.b c.loop-i.n c.loop-i.i c.requires.0 c.requires.1
    c.loop-i.invariant c.loop-i-test.true
    (sym c.in-Ok.is ∙ c.number_at.ensures) c.base_of.ensures

pub overflow_add-n-in_default : goal.overflow_add-n-in_default
overflow_add-n-in_default c =
    omega (arith, c.loop-i.invariant.scan.few)

pub loop-i-smaller : goal.loop-i-smaller
loop-i-smaller c =
    omega (
      arith,
      (next_place c.args.file.now c.loop-i.i _ _ c.loop-i.invariant.scan.inside
          (sym c.in-Ok.is ∙ c.number_at.ensures)).0,
    )

pub loop-i-preserved : goal.loop-i-preserved
loop-i-preserved c =
    filling_word c.args.file.now c.args.records.now c.loop-i.b c.loop-i.n c.loop-i.i c.requires.0 c.requires.1
    c.loop-i.invariant c.loop-i-test.true
    (sym c.in-Ok.is ∙ c.number_at.ensures) c.base_of.ensures c.after_word-b.ensures

pub returns-in_default-number_at : goal.returns-in_default-number_at
returns-in_default-number_at c =
    never_failing c.args.file.now c.loop-i.b c.loop-i.n c.loop-i.i c.loop-i.invariant.scan c.requires.0
    c.loop-i-test.true _ c.number_at.ensures c.in_default-number_at.not-Ok

pub shape_of-records : goal.shape_of-records
shape_of-records c =
    filling_length c.args.file.now c.args.records.now c.loop-i.b c.loop-i.n c.loop-i.i c.requires.0 c.requires.1 c.loop-i.invariant

pub returns : goal.returns
returns c =
    filling_end c.args.file.now c.args.records.now c.loop-i.b c.loop-i.n c.loop-i.i c.requires.0 c.requires.1 c.loop-i.invariant c.loop-i-test.false
