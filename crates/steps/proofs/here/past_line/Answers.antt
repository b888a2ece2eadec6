-- Before the place where the first delimiter ends the body does not end with it, so that characters up to there are passed (Delimiter).
use native.Mathlib.Omega.{arith}
use Prim.Native.Nat.{ℕ, ◌+◌, ◌-◌, ◌<◌}
use mathlib.Core.Path.{◌≡◌, sym, ap, subst, ◌∙◌}
use mathlib.Core.Bool.{false}
use mathlib.Core.List.{List}
use lib.ListN.{length, take, drop}
use lib.Seq.{length-take-le}
use Rattle.laws.proofs.Lent.{part_rest, length_part}
use Rattle.items.specs.Readers.{unreturned, ends_with}
use Rattle.steps.specs.Scan.{part}
use Rattle.steps.proofs.Delimiter.{no_end, passes_walk}
use Rattle.steps.proofs.Sought.{kept_line, rest_first}
use Rattle.steps.proofs.here.past_line.Goals as goal

pub slice_bounds-line-end : goal.slice_bounds-line-end
slice_bounds-line-end c = sym (length-take-le _ _ c.kept_end-last.ensures.0)

pub delimiter_end-end-requires : goal.delimiter_end-end-requires
delimiter_end-end-requires c =
    let f = c.args in
    let p = c.requires in
    let whole = part f.s.now (f.start + 3) f.newline in
    let first = c.kept_start-first in
    let rest = take (length whole - first.result) (drop first.result whole) in
    let last = c.kept_end-last in
    let some : 0 < last.result = omega (arith, c.if-last-eq0.false) in
    let inside : first.result < length whole = omega (arith, some, last.ensures.0, length_part whole first.result) in (
      omega (arith, c.earliest.ensures.0, p.2),
      c.unreturned_length-n.ensures,
      kept_line rest last.result some last.ensures.0 (λ e. first.ensures.2 inside (sym (rest_first whole first.result) ∙ e))
          (last.ensures.2 some),
    )

pub returns : goal.returns
returns c =
    let f = c.args in
    let p = c.requires in
    let s = f.s.now in
    let whole = part s (f.start + 3) f.newline in
    let first = c.kept_start-first in
    let rest = take (length whole - first.result) (drop first.result whole) in
    let last = c.kept_end-last in
    let line = take last.result rest in
    let kept : unreturned line ≡ unreturned whole = last.ensures.1 ∙ ap unreturned (part_rest whole first.result) ∙ first.ensures.1 in
    let n = c.unreturned_length-n in
    let start = c.earliest in
    let end = c.delimiter_end-end in
    passes_walk s f.start f.newline f.from end.result c.chars_end.result p.0 p.1 p.2
    (λ at h m. subst (λ (d : List ℕ). ends_with d (part s (f.newline + 1) at) ≡ false) kept
    (no_end s (unreturned line) (f.newline + 1) at (omega (arith, p.1, h)) (omega (arith, m, end.ensures.0))
    (λ i b e. end.ensures.1 i (start.ensures.1 i b (omega (arith, e, h, n.ensures))) (omega (arith, e, m)))))
    c.chars_end.ensures
