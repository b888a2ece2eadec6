-- The invariant: the count is that of the powers tried.
use mathlib.Core.Path.{◌≡◌, refl}
use native.Mathlib.Omega.{arith}
use Prim.Native.Nat.{◌+◌, ◌-◌}
use Rattle.findings_render_parts.specs.Printed.{tens_up_to, digit_count}
use Rattle.findings_render_parts.proofs.Digits.{tens_hit, tens_miss}
use Rattle.findings_render_parts.proofs.numbers.digit_count.Goals as goal
use Rattle.findings_render_parts.proofs.numbers.digit_count.Goals.{then-ten_to-n, else-ten_to-n}

pub loop-k-init : goal.loop-k-init
unfolding tens_up_to
loop-k-init c = (refl, omega arith)

pub loop-k-preserved : goal.loop-k-preserved
loop-k-preserved c =
    let e : c.loop-k.k + 1 - 1 ≡ c.loop-k.k - 1 + 1 = omega arith in
    let f : c.loop-k.k - 1 + 1 ≡ c.loop-k.k = omega arith in
    rw e (elim c.if-ten_to-n.branch [
      | then-ten_to-n w ↦ (omega (arith, tens_hit (c.loop-k.k - 1) c.args.n (rw f (rw c.ten_to.ensures.0 at w.if-ten_to-n.true))), omega arith)
      | else-ten_to-n w ↦ (omega (arith, tens_miss (c.loop-k.k - 1) c.args.n (rw f (rw c.ten_to.ensures.0 at w.if-ten_to-n.false))), omega arith)
    ])

pub returns : goal.returns
unfolding digit_count
returns c = let e : c.loop-k.k - 1 ≡ 19 = omega arith in (rw e at c.loop-k.invariant.0, omega arith)
