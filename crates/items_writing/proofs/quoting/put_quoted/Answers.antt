-- Three parts, one after the other: the mark, the bytes, the mark.
use native.Mathlib.Omega.{arith}
use mathlib.Core.List.{[], ◌∷◌}
use Rattle.items_writing.specs.Pieces.{escaped_by}
use Rattle.items_writing.proofs.QuotedBytes.{first_room, first_part, second_room, second-part, third_is, third_size}
use Rattle.items_writing.proofs.quoting.put_quoted.Goals as goal

pub put_escaped-requires : goal.put_escaped-requires
put_escaped-requires c =
    first_part (c.args.mark ∷ []) (escaped_by c.args.mark c.args.t.now) (c.args.mark ∷ []) c.args.out.now c.requires
    c.put_lone-start.ensures.1 c.put_lone-start.ensures.0

pub overflow_add-end : goal.overflow_add-end
overflow_add-end c =
    omega (
      arith,
      c.put_escaped.ensures.0,
      first_room (c.args.mark ∷ []) (escaped_by c.args.mark c.args.t.now)
          (c.args.mark ∷ []) c.args.out.now c.requires c.put_lone-start.ensures.1
          c.put_lone-start.ensures.0,
    )

pub slice_bounds-put_lone-count : goal.slice_bounds-put_lone-count
slice_bounds-put_lone-count c =
    omega (
      arith,
      second_room (c.args.mark ∷ []) (escaped_by c.args.mark c.args.t.now) (c.args.mark ∷ []) c.args.out.now c.requires
          c.put_lone-start.ensures.1 c.put_lone-start.ensures.0
          c.put_escaped.ensures.1 c.put_escaped.ensures.0,
    )

pub slice_bounds-put_lone-start : goal.slice_bounds-put_lone-start
slice_bounds-put_lone-start c =
    omega (
      arith,
      second_room (c.args.mark ∷ []) (escaped_by c.args.mark c.args.t.now) (c.args.mark ∷ []) c.args.out.now c.requires
          c.put_lone-start.ensures.1 c.put_lone-start.ensures.0
          c.put_escaped.ensures.1 c.put_escaped.ensures.0,
    )

pub put_lone-requires : goal.put_lone-requires
put_lone-requires c =
    second-part (c.args.mark ∷ []) (escaped_by c.args.mark c.args.t.now) (c.args.mark ∷ []) c.args.out.now c.requires
    c.put_lone-start.ensures.1 c.put_lone-start.ensures.0
    c.put_escaped.ensures.1 c.put_escaped.ensures.0

pub overflow_add-result : goal.overflow_add-result
overflow_add-result c =
    omega (
      arith,
      c.put_lone.ensures.0,
      second_room (c.args.mark ∷ []) (escaped_by c.args.mark c.args.t.now)
          (c.args.mark ∷ []) c.args.out.now c.requires
          c.put_lone-start.ensures.1
          c.put_lone-start.ensures.0
          c.put_escaped.ensures.1 c.put_escaped.ensures.0,
    )

pub returns : goal.returns
returns c = (
  third_size (c.args.mark ∷ []) (escaped_by c.args.mark c.args.t.now) (c.args.mark ∷ []) c.args.out.now c.requires
      c.put_lone-start.ensures.1
      c.put_lone-start.ensures.0
      c.put_escaped.ensures.1 c.put_escaped.ensures.0
      c.put_lone.ensures.1 c.put_lone.ensures.0,
  third_is (c.args.mark ∷ [])
      (escaped_by c.args.mark c.args.t.now) (c.args.mark ∷ []) c.args.out.now c.requires
      c.put_lone-start.ensures.1
      c.put_lone-start.ensures.0
      c.put_escaped.ensures.1 c.put_escaped.ensures.0
      c.put_lone.ensures.1 c.put_lone.ensures.0,
)
