-- Digits have the value 0 exactly if each of them is `0`.
use Rattle.digits.specs.Digits.{digit_of, value, zeros}
use Rattle.digits.proofs.Digits.{digit_all}
use Rattle.digits.proofs.Integers.{value_ge}
use Rattle.laws.specs.Quoted.{code, within}
use Rattle.laws.proofs.Choice.{by_bool, and_true}
use Prim.Native.Nat.{ℕ, ◌+◌, ◌*◌, ◌≤◌}
use mathlib.Core.Path.{◌≡◌, refl, sym, ◌∙◌}
use mathlib.Core.Bool.{true}
use mathlib.Core.List.{List, [], ◌∷◌}
use lib.Dec.{eqb}
use native.Mathlib.Omega.{arith}
use native.Mathlib.Nat.{zero-mul}
use borrow.Author.Tests.{eq-eqb, eqb-true, eqb-false}

digit_zero : (c : ℕ) → digit_of c ≡ 0 → c ≡ code "0"
digit_zero c =
    digit_all c (λ d. d ≡ 0 → c ≡ code "0") (λ h e. omega arith) (λ h e. omega arith) (λ h e. omega arith) (λ e. omega arith)

pub value_zero : (R n : ℕ) (s : List ℕ) → 1 ≤ R → value R n s ≡ 0 → zeros s ≡ true
unfolding value zeros
value_zero R n [] h e = refl
value_zero R n (c ∷ s) h e =
    let d : c ≡ code "0" = digit_zero c (omega (arith, value_ge R h (n * R + digit_of c) s)) in
    simp (eq-eqb c (code "0") d) (value_zero R (n * R + digit_of c) s h e)

pub zeros-value : (R : ℕ) (s : List ℕ) → zeros s ≡ true → value R 0 s ≡ 0
unfolding value zeros digit_of within
zeros-value R [] e = refl
zeros-value R (c ∷ s) e =
    let h = and_true (eqb c (code "0")) (zeros s) e in
    simp (eqb-true c (code "0") h.0, zero-mul) (zeros-value R s h.1)

-- 01's test of a denominator's digits, as one of their value
pub zeros_is : (R : ℕ) (s : List ℕ) → 1 ≤ R → eqb (value R 0 s) 0 ≡ zeros s
zeros_is R s h =
    by_bool (eqb (value R 0 s) 0)
    (λ e. e ∙ sym (value_zero R 0 s h (eqb-true _ _ e)))
    (λ e. by_bool (zeros s)
    (λ z. absurd (eqb-false _ _ e (zeros-value R s z)))
    (λ z. e ∙ sym z))
