-- Programs for C that do not meet the promise of `mihadrena_nest`, whatever else they do, and the one answer that it leaves.
use Prim.Native.Nat.{ℕ}
use mathlib.Core.Path.{◌≡◌, sym, ap, ◌∙◌}
use mathlib.Core.List.{List, [], ◌∷◌}
use lib.ListN.{get_or, replicate}
use native.Mathlib.Omega.{arith}
use Rattle.nested_promises.specs.Rows.{words_in, opens, a, closes}
use Rattle.nested_promises.specs.Told.{Seen, seen, count_told, few_told, no_values}

pub told_one_answer : (records nodes values : List ℕ) (x y : Seen) → x ≡ seen records nodes values → y ≡ seen records nodes values → x ≡ y
told_one_answer records nodes values x y e f = e ∙ sym f

module _ (call : List ℕ → List ℕ → List ℕ → Seen) (meets : (records nodes values : List ℕ) → call records nodes values ≡ seen records nodes values) where
  -- it tells every answer as served
  pub never_serves_all : ((records nodes values : List ℕ) → (call records nodes values).number ≡ 0) → ⊥
  never_serves_all h =
      omega (
        arith,
        h (words_in (opens ∷ a ∷ closes ∷ [])) (replicate 5 7) (9 ∷ []),
        ap (λ (s : Seen). s.number) (meets (words_in (opens ∷ a ∷ closes ∷ [])) (replicate 5 7) (9 ∷ []) ∙ few_told),
      )

  -- it leaves the values as they were
  pub never_untold : ((records nodes values : List ℕ) → (call records nodes values).values ≡ values) → ⊥
  never_untold h =
      omega (
        arith,
        ap (λ (v : List ℕ). get_or v 0 0) (h (words_in (opens ∷ a ∷ closes ∷ [])) (replicate 6 7) (9 ∷ 9 ∷ [])),
        ap (λ (s : Seen). get_or s.values 0 0) (meets (words_in (opens ∷ a ∷ closes ∷ [])) (replicate 6 7) (9 ∷ 9 ∷ []) ∙ count_told),
      )

  -- it writes no nodes where it cannot tell how many they are
  pub never_needs_values : ((records nodes : List ℕ) → (call records nodes []).nodes ≡ nodes) → ⊥
  never_needs_values h =
      omega (
        arith,
        ap (λ (m : List ℕ). get_or m 0 0) (h (words_in (opens ∷ a ∷ closes ∷ [])) (replicate 6 7)),
        ap (λ (s : Seen). get_or s.nodes 0 0) (meets (words_in (opens ∷ a ∷ closes ∷ [])) (replicate 6 7) [] ∙ no_values),
      )
