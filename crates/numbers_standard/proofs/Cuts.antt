-- A number's parts from a place on, by the standard: one real, or two with a sign or @ between them.
use Rattle.numbers.specs.Reals.{exponent_marker}
use Rattle.numbers.specs.Grammar.{to_sign, starts_e}
use Rattle.numbers.proofs.Grammars.{last_is_lem}
use Rattle.laws.specs.Letters.{lower, is_sign}
use Rattle.numbers_standard.specs.Grammar.{ends_i, joint}
use Rattle.laws.specs.Quoted.{code}
use Rattle.laws.specs.Texts.{span, starts}
use Rattle.laws.proofs.Places.{here, cut_at}
use Rattle.laws.proofs.Runs.{span_hit, span_stop}
use Prim.Native.Nat.{ℕ, ◌+◌, ◌-◌, ◌<◌}
use mathlib.Core.Path.{◌≡◌, sym, ap, ◌∙◌}
use mathlib.Core.Bool.{true, false, Bool, not}
use mathlib.Core.List.{List, ◌∷◌, map}
use lib.ListN.{length, get_or, drop}
use lib.Seq.{drop-drop}
use lib.Dec.{eqb}
use native.Mathlib.Omega.{arith}
use borrow.Author.Tests.{eq-eqb, ne_eqb}

-- the last byte
pub ends_here : (t : List ℕ) (p : ℕ) → p < length t → (x : ℕ) → x ≡ lower (get_or t (length t - 1) 0) → eqb x (code "i") ≡ ends_i (drop p t)
unfolding ends_i starts
ends_here t p h x e =
    let q : drop (length (drop p t) - 1) (drop p t) ≡ get_or t (length t - 1) 0 ∷ drop (length t - 1 + 1) t
    = sym (cut_at t p (length (drop p t) - 1) (length t - 1) (last_is_lem t p h)) ∙ here t (length t - 1) (omega arith) in
    rw e (sym (ap (λ (y : List ℕ). starts (code "i") (map lower y)) q))

-- the first sign
module _ (t : List ℕ) (i : ℕ) where
  pub sign_found : i < length t → true ≡ is_sign (get_or t i 0) → i + span (λ c. not (is_sign c)) (drop i t) ≡ i
  sign_found h e = span_stop (λ c. not (is_sign c)) t i h (ap not (sym e))

  pub sign_not : i < length t → false ≡ is_sign (get_or t i 0)
      → i + span (λ c. not (is_sign c)) (drop i t) ≡ i + 1 + span (λ c. not (is_sign c)) (drop (i + 1) t)
  sign_not h n = span_hit (λ c. not (is_sign c)) t i h (ap not (sym n))

-- the sign that joins two parts, at k
module _ (R : ℕ) (t : List ℕ) (p k : ℕ) where
  pub joint_hex : R ≡ 16 → k ≡ p + 1 + span (λ c. not (is_sign c)) (drop (p + 1) t) → k ≡ p + joint R (drop p t)
  unfolding joint
  joint_hex h e = simp (eq-eqb R 16 h, drop-drop 1 p t) (omega arith)

  pub joint_other : (R ≡ 16 → ⊥) → p < length t → (m : Bool) → m ≡ exponent_marker (get_or t p 0) → k ≡ p + 1 + to_sign m (drop (p + 1) t)
      → k ≡ p + joint R (drop p t)
  unfolding joint starts_e
  joint_other n h m e g =
      let a : m ≡ starts_e (drop p t) = e ∙ sym (ap starts_e (here t p h)) in
      simp (ne_eqb R 16 n, drop-drop 1 p t, ← a) (omega arith)
