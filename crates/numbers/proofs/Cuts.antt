-- A number's parts from a place on: one real, or two with a sign or @ between them.
use Rattle.std.proofs.Common.{None, Option, Some}
use Rattle.numbers.specs.declared.Real.{Real}
use Rattle.numbers.specs.declared.Parts.TheVariants.{Just, Complex, Polar}
use Rattle.numbers.specs.Grammar.{just_of, complex_of, polar_of, ends_i, to_sign, starts_e, cut}
use Rattle.numbers.specs.Reals.{exponent_marker}
use Rattle.numbers.specs.Grammars.{another_sign}
use Rattle.numbers.proofs.Grammars.{last_is_lem}
use Rattle.laws.specs.Quoted.{code}
use Rattle.laws.specs.Texts.{starts}
use Rattle.laws.proofs.Choice.{by_bool}
use Rattle.laws.proofs.Compared.{starts_here}
use Rattle.laws.proofs.Places.{past, here, cut_at, cut_after, cut_in, cut_out}
use Prim.Native.Nat.{ℕ, ◌+◌, ◌-◌, ◌≤◌, ◌<◌}
use mathlib.Core.Path.{◌≡◌, sym, ap, ◌∙◌}
use mathlib.Core.Bool.{Bool, true, false}
use mathlib.Core.List.{List}
use mathlib.Core.Logic.{◌⊎◌, inl, inr}
use lib.ListN.{length, get_or, drop}
use lib.Seq.{drop-drop}
use lib.Dec.{eqb, ltb}
use native.Mathlib.Omega.{arith}
use borrow.Author.Tests.{ne_eqb, ltb-true, ltb-false}

-- reals to parts
module _ (a : Option Real) where
  pub just_is : (x : Real) → a ≡ Some x → Some (Just x) ≡ just_of a
  unfolding just_of
  just_is x e = rw e

  pub just_no : a ≡ None → None ≡ just_of a
  unfolding just_of
  just_no e = rw e

module _ (a b : Option Real) where
  pub complex_is : (x y : Real) → a ≡ Some x → b ≡ Some y → Some (Complex x y) ≡ complex_of a b
  unfolding complex_of
  complex_is x y e f = rw (e, f)

  pub complex_no : (x : Real) → a ≡ Some x → b ≡ None → None ≡ complex_of a b
  unfolding complex_of
  complex_no x e f = rw (e, f)

  pub complex_not : a ≡ None → None ≡ complex_of a b
  unfolding complex_of
  complex_not e = rw e

  pub polar_is : (x y : Real) → a ≡ Some x → b ≡ Some y → Some (Polar x y) ≡ polar_of a b
  unfolding polar_of
  polar_is x y e f = rw (e, f)

  pub polar_no : (x : Real) → a ≡ Some x → b ≡ None → None ≡ polar_of a b
  unfolding polar_of
  polar_no x e f = rw (e, f)

  pub polar_not : a ≡ None → None ≡ polar_of a b
  unfolding polar_of
  polar_not e = rw e

-- the last byte
pub ends_here : (t : List ℕ) (p : ℕ) → p < length t → eqb (get_or t (length t - 1) 0) (code "i") ≡ ends_i (drop p t)
unfolding ends_i
ends_here t p h =
    starts_here (code "i") t (length t - 1) (omega arith)
    ∙ ap (starts (code "i")) (cut_at t p (length (drop p t) - 1) (length t - 1) (last_is_lem t p h))

-- the first sign
module _ (t : List ℕ) (i : ℕ) where
  pub sign_nowhere : (skip : Bool) → length t ≤ i → i + to_sign skip (drop i t) ≡ i
  unfolding to_sign
  sign_nowhere true h = simp (past t i h) (omega arith)
  sign_nowhere false h = simp (past t i h) (omega arith)

  module _ (skip : Bool) (h : i < length t) where
    pub sign_passed : skip ≡ true → i + to_sign skip (drop i t) ≡ i + 1 + to_sign false (drop (i + 1) t)
    unfolding to_sign
    sign_passed f = simp (f, here t i h) (omega arith)

    module _ (f : skip ≡ false) where
      pub sign_found : (get_or t i 0 ≡ code "+") ⊎ (get_or t i 0 ≡ code "-") → i + to_sign skip (drop i t) ≡ i
      unfolding to_sign
      sign_found (inl e) = simp (f, here t i h, e) (omega arith)
      sign_found (inr e) = simp (f, here t i h, e) (omega arith)

      pub sign_not : (g : Bool) → (get_or t i 0 ≡ code "+" → ⊥) → (get_or t i 0 ≡ code "-" → ⊥) → g ≡ exponent_marker (get_or t i 0)
          → i + to_sign skip (drop i t) ≡ i + 1 + to_sign g (drop (i + 1) t)
      unfolding to_sign
      sign_not g n m e = simp (f, e, here t i h, ne_eqb (get_or t i 0) (code "+") n, ne_eqb (get_or t i 0) (code "-") m) (omega arith)

-- where the first sign past the first byte stands, and whether another one does, at n
module _ (t : List ℕ) (p : ℕ) where
  pub cut_is : p < length t → (e : Bool) → e ≡ exponent_marker (get_or t p 0) → (k : ℕ) → k ≡ p + 1 + to_sign e (drop (p + 1) t) → k ≡ p + cut (drop p t)
  unfolding starts_e
  cut_is h e m k g = let a : e ≡ starts_e (drop p t) = m ∙ sym (ap starts_e (here t p h)) in simp (drop-drop 1 p t, ← a) (omega arith)

  module _ (k : ℕ) (l : p ≤ k) (n : ℕ) (j : n ≡ k + 1 + to_sign false (drop (k + 1) t)) where
    there : k ≡ p + (k - p)
    there = omega arith

    second : n ≡ p + (k - p + 1 + to_sign false (drop (k - p + 1) (drop p t)))
    second = simp (← cut_after t p (k - p) k there) (omega (arith, there))

    pub again_no : length t ≤ n → false ≡ another_sign (k - p) (drop p t)
    again_no o = sym (cut_out t p (k - p + 1 + to_sign false (drop (k - p + 1) (drop p t))) n second o)

    pub again_is : ltb n (length t) ≡ another_sign (k - p) (drop p t)
    again_is =
        by_bool (ltb n (length t))
        (λ e. e ∙ sym (cut_in t p (k - p + 1 + to_sign false (drop (k - p + 1) (drop p t))) n second (ltb-true n (length t) e)))
        (λ e. e ∙ again_no (ltb-false n (length t) e))
