-- The loop keeps: of j bytes n are newline bytes, so n starts fewer are left.
use native.Mathlib.Omega.{arith}
use Prim.Native.Nat.{ℕ, ◌+◌}
use mathlib.Core.Path.{◌≡◌, ap, ◌∙◌}
use lib.ListN.{length}
use Rattle.lines_calls.specs.Left.{left}
use Rattle.lines_calls.proofs.Left.{counted_none, counted_next}
use Rattle.lines_calls.proofs.building.count_part.Goals as goal

pub loop-j-init : goal.loop-j-init
loop-j-init c = (omega arith, counted_none c.args.text.now c.args.at)

pub overflow_add-n : goal.overflow_add-n
overflow_add-n c =
    let l = c.loop-j in
    let v = counted_next c.args.text.now c.args.at l.j l.n (omega arith) c.if_newline-n.ensures l.invariant.1 in
    omega (arith, v.0)

pub loop-j-preserved : goal.loop-j-preserved
loop-j-preserved c =
    let l = c.loop-j in
    let v = counted_next c.args.text.now c.args.at l.j l.n (omega arith) c.if_newline-n.ensures l.invariant.1 in
    (omega (arith, v.0), v.1)

pub returns : goal.returns
returns c =
    let l = c.loop-j in let e : l.j ≡ c.args.bytes = omega arith in
    (omega arith, l.invariant.1 ∙ ap (λ (j : ℕ). l.n + length (left c.args.text.now (c.args.at + j))) e)
