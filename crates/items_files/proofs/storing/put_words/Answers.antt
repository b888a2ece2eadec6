-- The bytes of the records passed lie in the memory (`Filing`).
use mathlib.Core.Path.{ap, ◌∙◌}
use mathlib.Core.List.{List}
use Prim.Native.Nat.{ℕ, ◌-◌}
use native.Mathlib.Omega.{arith}
use lib.ListN.{length, take, drop}
use Rattle.laws.specs.Lent.{written}
use Rattle.laws.proofs.Lent.{length_part}
use Rattle.items_files.specs.Groups.{images}
use Rattle.items_files.proofs.Writer.{filing_start, filing_length, filing_inside, filing_forth, filing_room, filing_turn, filing_end}
use Rattle.items_files.proofs.storing.put_words.Goals as goal

pub loop-item-init : goal.loop-item-init
loop-item-init c = filing_start c.args.words.now c.args.out.now c.requires.1

pub record_at-record-requires : goal.record_at-record-requires
record_at-record-requires c =
    filing_inside c.args.words.now c.args.out.now c.requires.0 c.requires.2 c.loop-item.invariant (omega (arith, c.loop-item-test.true))

pub numbers_of-requires : goal.numbers_of-requires
numbers_of-requires c =
    filing_forth c.args.words.now c.args.out.now c.requires.0 c.requires.2 c.loop-item.invariant (omega (arith, c.loop-item-test.true))
    c.record_at-record.result c.record_at-record.ensures

pub slice_bounds-put_numbers-count : goal.slice_bounds-put_numbers-count
slice_bounds-put_numbers-count c =
    omega (
      arith,
      filing_room c.args.words.now c.args.out.now c.requires.0 c.requires.2 c.loop-item.invariant (omega (arith, c.loop-item-test.true))
          c.record_at-record.result c.record_at-record.ensures,
    )

pub slice_bounds-put_numbers-start : goal.slice_bounds-put_numbers-start
slice_bounds-put_numbers-start c =
    omega (
      arith,
      filing_room c.args.words.now c.args.out.now c.requires.0 c.requires.2 c.loop-item.invariant (omega (arith, c.loop-item-test.true))
          c.record_at-record.result c.record_at-record.ensures,
    )

pub put_numbers-at-requires : goal.put_numbers-at-requires
put_numbers-at-requires c = (
  ap (λ (l : List ℕ). length l) c.numbers_of.ensures,
  omega (
    arith,
    filing_room c.args.words.now c.args.out.now c.requires.0 c.requires.2 c.loop-item.invariant (omega (arith, c.loop-item-test.true))
        c.record_at-record.result c.record_at-record.ensures,
    ap (λ (l : List ℕ). length (images l)) c.numbers_of.ensures,
    length_part c.loop-item.out c.loop-item.at,
  ),
)

pub overflow_add-at : goal.overflow_add-at
overflow_add-at c =
    omega (
      arith,
      c.put_numbers-at.ensures.0,
      ap (λ (l : List ℕ). length (images l)) c.numbers_of.ensures,
      filing_room c.args.words.now c.args.out.now c.requires.0 c.requires.2 c.loop-item.invariant
          (omega (arith, c.loop-item-test.true)) c.record_at-record.result
          c.record_at-record.ensures,
      filing_length c.args.words.now c.args.out.now c.requires.0 c.requires.2 c.loop-item.invariant,
    )

pub loop-item-preserved : goal.loop-item-preserved
loop-item-preserved c =
    let ns = c.numbers_of.ensures in
    filing_turn c.args.words.now c.args.out.now c.requires.0 c.requires.2 c.loop-item.invariant
    (omega (arith, c.loop-item-test.true)) c.record_at-record.result
    c.record_at-record.ensures
    (c.put_numbers-at.ensures.0 ∙ ap (λ (l : List ℕ). length (images l)) ns)
    (c.put_numbers-at.ensures.1
    ∙ ap (λ (l : List ℕ). written (images l) (take (length c.loop-item.out - c.loop-item.at) (drop c.loop-item.at c.loop-item.out))) ns)
    (omega arith)

pub shape_of-out : goal.shape_of-out
shape_of-out c =
    filing_length c.args.words.now c.args.out.now c.requires.0 c.requires.2 c.loop-item.invariant

pub returns : goal.returns
returns c =
    filing_end c.args.words.now c.args.out.now c.requires.0 c.requires.2 c.loop-item.invariant (omega (arith, c.requires.0, c.loop-item-test.false))
