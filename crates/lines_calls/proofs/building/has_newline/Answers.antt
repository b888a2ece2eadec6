-- The loop keeps: where none of j bytes was a newline byte, the same starts are left.
use native.Mathlib.Omega.{arith}
use Prim.Native.Nat.{ℕ, ◌+◌, ◌<◌}
use mathlib.Core.Path.{◌≡◌, sym, ap, subst, ◌∙◌}
use mathlib.Core.Bool.{false, true≢false}
use lib.ListN.{length}
use native.Mathlib.Nat.{add-zero}
use Rattle.lines_calls.specs.Left.{left, block}
use Rattle.lines_calls.proofs.Left.{none_next}
use Rattle.lines_calls.proofs.building.has_newline.Goals as goal
use Rattle.lines_calls.proofs.building.has_newline.Goals.{then-text-at-eq10, else-text-at-eq10}

pub loop-j-init : goal.loop-j-init
loop-j-init c = λ n. ap (left c.args.text.now) (sym (add-zero c.args.at))

pub loop-j-preserved : goal.loop-j-preserved
loop-j-preserved c =
    let a = c.args in
    let l = c.loop-j in
    let h : a.at + l.j < length a.text.now = omega arith in
    λ n. elim c.if-text-at-eq10.branch [
      | then-text-at-eq10 w ↦ absurd (true≢false (sym w.found-is ∙ n))
      | else-text-at-eq10 w ↦ none_next a.text.now a.at l.j h (l.invariant (sym w.found-is ∙ n)) w.if-text-at-eq10.false
    ]

pub returns : goal.returns
returns c =
    let l = c.loop-j in let e : l.j ≡ block = omega arith in subst (λ (j : ℕ). l.found ≡ false
    → left c.args.text.now c.args.at ≡ left c.args.text.now (c.args.at + j)) e l.invariant
