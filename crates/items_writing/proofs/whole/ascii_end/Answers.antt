-- The loop keeps: up to the place i the text is passed.
use native.Mathlib.Omega.{arith}
use Prim.Native.Nat.{ℕ}
use mathlib.Core.Path.{◌≡◌, refl, subst}
use Rattle.chars.specs.Wide.{Passed}
use Rattle.chars.proofs.Wide.{passed_none, passed_on, passed_small}
use Rattle.items_writing.proofs.whole.ascii_end.Goals as goal

pub loop-i-init : goal.loop-i-init
loop-i-init c = (passed_none _ _, λ h. refl)

pub returns-then-t-i-ge-ASCII_END : goal.returns-then-t-i-ge-ASCII_END
returns-then-t-i-ge-ASCII_END c = c.loop-i.invariant.0

pub loop-i-preserved : goal.loop-i-preserved
loop-i-preserved c =
    (passed_on _ _ _ _ c.loop-i.invariant.0 (passed_small _ _ c.loop-i-test.true (omega arith)), λ h. omega arith)

pub returns : goal.returns
returns c =
    let same : c.loop-i.i ≡ c.max.result = grind (arith, c.max.ensures, c.loop-i.invariant.1) in
    subst (λ (k : ℕ). Passed c.args.t.now c.args.from k) same c.loop-i.invariant.0
