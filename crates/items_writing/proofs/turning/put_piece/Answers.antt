-- Three parts, one after the other: the space, the plus, the text in its form.
use native.Mathlib.Omega.{arith}
use mathlib.Core.Bool.{not}
use Rattle.laws.specs.Quoted.{code}
use Rattle.items_writing.specs.Pieces.{lone, shown, piece}
use Rattle.items_writing.proofs.QuotedBytes.{sizes, first_room, first_part, second_room, second-part, third_is, third_length, third_size}
use Rattle.items_writing.proofs.turning.put_piece.Goals as goal

pub put_lone-gap-requires : goal.put_lone-gap-requires
unfolding piece
put_lone-gap-requires c =
    omega (
      arith,
      sizes (lone (not c.args.first) (code " ")) (lone c.args.turn.pair (code "+")) (shown c.args.turn.form c.args.t.now)
          c.args.out.now c.requires,
    )

pub slice_bounds-put_lone-count : goal.slice_bounds-put_lone-count
unfolding piece
slice_bounds-put_lone-count c =
    omega (
      arith,
      first_room (lone (not c.args.first) (code " ")) (lone c.args.turn.pair (code "+"))
          (shown c.args.turn.form c.args.t.now) c.args.out.now c.requires c.put_lone-gap.ensures.1
          c.put_lone-gap.ensures.0,
    )

pub slice_bounds-put_lone-start : goal.slice_bounds-put_lone-start
unfolding piece
slice_bounds-put_lone-start c =
    omega (
      arith,
      first_room (lone (not c.args.first) (code " ")) (lone c.args.turn.pair (code "+"))
          (shown c.args.turn.form c.args.t.now) c.args.out.now c.requires c.put_lone-gap.ensures.1
          c.put_lone-gap.ensures.0,
    )

pub put_lone-requires : goal.put_lone-requires
unfolding piece
put_lone-requires c =
    first_part (lone (not c.args.first) (code " ")) (lone c.args.turn.pair (code "+")) (shown c.args.turn.form c.args.t.now)
    c.args.out.now c.requires c.put_lone-gap.ensures.1 c.put_lone-gap.ensures.0

pub overflow_add-plus : goal.overflow_add-plus
unfolding piece
overflow_add-plus c =
    omega (
      arith,
      c.put_lone.ensures.0,
      first_room (lone (not c.args.first) (code " ")) (lone c.args.turn.pair (code "+"))
          (shown c.args.turn.form c.args.t.now) c.args.out.now c.requires c.put_lone-gap.ensures.1
          c.put_lone-gap.ensures.0,
    )

pub slice_bounds-put_shown-count : goal.slice_bounds-put_shown-count
unfolding piece
slice_bounds-put_shown-count c =
    omega (
      arith,
      second_room (lone (not c.args.first) (code " ")) (lone c.args.turn.pair (code "+"))
          (shown c.args.turn.form c.args.t.now) c.args.out.now c.requires c.put_lone-gap.ensures.1
          c.put_lone-gap.ensures.0 c.put_lone.ensures.1 c.put_lone.ensures.0,
    )

pub slice_bounds-put_shown-start : goal.slice_bounds-put_shown-start
unfolding piece
slice_bounds-put_shown-start c =
    omega (
      arith,
      second_room (lone (not c.args.first) (code " ")) (lone c.args.turn.pair (code "+"))
          (shown c.args.turn.form c.args.t.now) c.args.out.now c.requires c.put_lone-gap.ensures.1
          c.put_lone-gap.ensures.0 c.put_lone.ensures.1 c.put_lone.ensures.0,
    )

pub put_shown-requires : goal.put_shown-requires
unfolding piece
put_shown-requires c =
    second-part (lone (not c.args.first) (code " ")) (lone c.args.turn.pair (code "+")) (shown c.args.turn.form c.args.t.now)
    c.args.out.now c.requires c.put_lone-gap.ensures.1
    c.put_lone-gap.ensures.0 c.put_lone.ensures.1
    c.put_lone.ensures.0

pub overflow_add-result : goal.overflow_add-result
unfolding piece
overflow_add-result c =
    omega (
      arith,
      c.put_shown.ensures.0,
      second_room (lone (not c.args.first) (code " ")) (lone c.args.turn.pair (code "+"))
          (shown c.args.turn.form c.args.t.now) c.args.out.now c.requires
          c.put_lone-gap.ensures.1
          c.put_lone-gap.ensures.0
          c.put_lone.ensures.1 c.put_lone.ensures.0,
    )

pub shape_of-out : goal.shape_of-out
unfolding piece
shape_of-out c =
    third_length (lone (not c.args.first) (code " ")) (lone c.args.turn.pair (code "+")) (shown c.args.turn.form c.args.t.now)
    c.args.out.now c.requires c.put_lone-gap.ensures.1
    c.put_lone-gap.ensures.0
    c.put_lone.ensures.1 c.put_lone.ensures.0
    c.put_shown.ensures.1 c.put_shown.ensures.0

pub returns : goal.returns
unfolding piece
returns c = (
  third_size (lone (not c.args.first) (code " ")) (lone c.args.turn.pair (code "+")) (shown c.args.turn.form c.args.t.now)
      c.args.out.now c.requires c.put_lone-gap.ensures.1
      c.put_lone-gap.ensures.0
      c.put_lone.ensures.1 c.put_lone.ensures.0
      c.put_shown.ensures.1 c.put_shown.ensures.0,
  third_is (lone (not c.args.first) (code " "))
      (lone c.args.turn.pair (code "+")) (shown c.args.turn.form c.args.t.now) c.args.out.now c.requires
      c.put_lone-gap.ensures.1
      c.put_lone-gap.ensures.0
      c.put_lone.ensures.1 c.put_lone.ensures.0
      c.put_shown.ensures.1 c.put_shown.ensures.0,
)
