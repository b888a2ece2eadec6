-- value and weight are those of the groups passed (`Numbering`).
use native.Mathlib.Omega.{arith}
use Prim.Native.Nat.{◌-◌, ◌≤◌}
use native.Mathlib.Nat.{mul-le-mul}
use lib.ListN.{get_or}
use Rattle.items_files.specs.Layout.{first}
use Rattle.items_files.specs.Read.{reading}
use Rattle.items_files.proofs.Reader.{weight_low, weight_less, group_small}
use Rattle.items_files.proofs.Reader.{numbering_start, numbering_end, numbering_zero, numbering_long, numbering_over, numbering_whole, numbering_fifth, numbering_on}
use Rattle.items_files.proofs.loading.groups_at.Goals as goal

pub loop-i-init : goal.loop-i-init
loop-i-init c = numbering_start c.args.file.now c.args.at

pub returns-then-weight-eq1 : goal.returns-then-weight-eq1
returns-then-weight-eq1 c =
    numbering_zero c.args.file.now c.args.at c.loop-i.invariant c.loop-i-test.true
    c.if-c-lt128.true c.if-c-eq0.true c.if-weight-eq1.true

pub returns-then-c-eq0 : goal.returns-then-c-eq0
returns-then-c-eq0 c =
    numbering_long c.args.file.now c.args.at c.loop-i.invariant c.loop-i-test.true
    c.if-c-lt128.true c.if-c-eq0.true c.if-weight-eq1.false

pub overflow_cast-n : goal.overflow_cast-n
overflow_cast-n c =
    omega (arith, weight_low (reading c.loop-i.value c.loop-i.weight first) c.loop-i.invariant.fine, c.loop-i.invariant.fine.small)

pub overflow_cast-n-then-c-lt128 : goal.overflow_cast-n-then-c-lt128
overflow_cast-n-then-c-lt128 c =
    omega (arith, weight_low (reading c.loop-i.value c.loop-i.weight first) c.loop-i.invariant.fine)

pub overflow_mul-n : goal.overflow_mul-n
overflow_mul-n c =
    let w = weight_low (reading c.loop-i.value c.loop-i.weight first) c.loop-i.invariant.fine in let k : get_or c.args.file.now
    c.loop-i.i 0 ≤ 127 = omega arith in omega (arith, mul-le-mul w k)

pub overflow_add-n : goal.overflow_add-n
overflow_add-n c =
    omega (
      arith,
      weight_low (reading c.loop-i.value c.loop-i.weight first) c.loop-i.invariant.fine,
      group_small (reading c.loop-i.value c.loop-i.weight first) c.loop-i.invariant.fine (get_or c.args.file.now c.loop-i.i 0) (omega arith),
    )

pub returns-then-n-gt-LARGEST_NUMBER : goal.returns-then-n-gt-LARGEST_NUMBER
returns-then-n-gt-LARGEST_NUMBER c =
    numbering_over c.args.file.now c.args.at c.loop-i.invariant c.loop-i-test.true
    c.if-c-lt128.true c.if-c-eq0.false c.if-n-gt-LARGEST_NUMBER.true

pub returns-then-c-lt128 : goal.returns-then-c-lt128
returns-then-c-lt128 c =
    numbering_whole c.args.file.now c.args.at c.loop-i.invariant c.loop-i-test.true
    c.if-c-lt128.true c.if-c-eq0.false c.if-n-gt-LARGEST_NUMBER.false

pub returns-then-weight-eq-FIFTH : goal.returns-then-weight-eq-FIFTH
returns-then-weight-eq-FIFTH c =
    numbering_fifth c.args.file.now c.args.at c.loop-i.invariant c.loop-i-test.true c.if-c-lt128.false c.if-weight-eq-FIFTH.true

pub overflow_cast-value : goal.overflow_cast-value
overflow_cast-value c =
    omega (arith, (c.shared_slice_known-1.given c.loop-i.i).fits)

pub overflow_mul-value : goal.overflow_mul-value
overflow_mul-value c =
    let w = weight_less (reading c.loop-i.value c.loop-i.weight first) c.loop-i.invariant.fine c.if-weight-eq-FIFTH.false in let k : get_or c.args.file.now
    c.loop-i.i 0 - 128 ≤ 127 = omega (arith, (c.shared_slice_known-1.given c.loop-i.i).fits) in omega (arith, mul-le-mul w k)

pub overflow_add-value : goal.overflow_add-value
overflow_add-value c =
    omega (
      arith,
      weight_less (reading c.loop-i.value c.loop-i.weight first) c.loop-i.invariant.fine c.if-weight-eq-FIFTH.false,
      group_small (reading c.loop-i.value c.loop-i.weight first) c.loop-i.invariant.fine (get_or c.args.file.now c.loop-i.i 0 - 128)
          (omega (arith, (c.shared_slice_known-1.given c.loop-i.i).fits)),
    )

pub overflow_mul-weight : goal.overflow_mul-weight
overflow_mul-weight c =
    omega (arith, weight_less (reading c.loop-i.value c.loop-i.weight first) c.loop-i.invariant.fine c.if-weight-eq-FIFTH.false)

pub loop-i-preserved : goal.loop-i-preserved
loop-i-preserved c =
    numbering_on c.args.file.now c.args.at c.loop-i.invariant c.loop-i-test.true c.if-c-lt128.false
    (c.shared_slice_known-1.given c.loop-i.i).fits c.if-weight-eq-FIFTH.false

pub returns : goal.returns
returns c =
    numbering_end c.args.file.now c.args.at c.loop-i.invariant c.loop-i-test.false
