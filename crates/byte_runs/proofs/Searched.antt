-- Two parts that agree: one behind another.
use Prim.Native.Nat.{ℕ, ◌+◌, ◌-◌}
use native.Mathlib.Omega.{arith}
use mathlib.Core.Path.{◌≡◌, sym, ap, ◌∙◌}
use mathlib.Core.List.{List}
use lib.Dec.{ltb}
use lib.ListN.{get_or}
use borrow.Author.Tests.{ltb-true, ltb-false}
use Rattle.laws.proofs.Choice.{by_bool}
use Rattle.byte_runs.specs.Search.{Alike}

module _ (t : List ℕ) (a b : ℕ) where
  -- a part that agrees behind one that does
  pub alike_on : (n m : ℕ) → Alike t a b n → Alike t (a + n) (b + n) m → Alike t a b (n + m)
  alike_on n m before behind k l =
      by_bool (ltb k n)
      (λ h. before k (ltb-true k n h))
      (λ h. let p : a + n + (k - n) ≡ a + k = omega (arith, ltb-false k n h) in
      let q : b + n + (k - n) ≡ b + k = omega (arith, ltb-false k n h) in
      sym (ap (λ (i : ℕ). get_or t i 0) p) ∙ behind (k - n) (omega (arith, ltb-false k n h)) ∙ ap (λ (i : ℕ). get_or t i 0) q)
