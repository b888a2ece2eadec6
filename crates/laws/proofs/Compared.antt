-- What a text starts with at a place, and how two texts compare there: what a loop that walks both needs at each turn.
use Prim.Native.Nat.{ℕ, suc, ◌≤◌, ◌<◌}
use mathlib.Core.Path.{◌≡◌, refl, ap}
use mathlib.Core.Bool.{Bool, true, false, ◌&&◌}
use mathlib.Core.List.{List, [], ◌∷◌}
use lib.ListN.{length, get_or, take, drop}
use lib.Pointwise.{pointwise}
use lib.Dec.{eqb, leb}
use native.Mathlib.Omega.{arith}
use native.Mathlib.Nat.{suc_inj}
use borrow.Author.Tests.{ne_eqb, eqb-true, leb-true, leb-false}
use Rattle.laws.specs.Texts.{starts, begins, same}
use Rattle.laws.proofs.Choice.{by_bool, and_no, impossible}
use Rattle.laws.proofs.Places.{past, here}

module _ (b : ℕ) (t : List ℕ) (i : ℕ) where
  pub starts_past : length t ≤ i → false ≡ starts b (drop i t)
  unfolding starts
  starts_past h = rw (past t i h)

  pub starts_here : i < length t → eqb (get_or t i 0) b ≡ starts b (drop i t)
  unfolding starts
  starts_here h = rw (here t i h)

  -- what stands at a place stands in the text
  pub starts_in : true ≡ starts b (drop i t) → i < length t
  starts_in h =
      by_bool (leb (length t) i)
      (λ e. let f = starts_past (leb-true _ _ e) in impossible cc)
      (λ e. leb-false _ _ e)

-- texts are compared element by element, as std does
pub same_pairwise : (s t : List ℕ) → pointwise eqb s t ≡ same s t
unfolding same
same_pairwise [] [] = refl
same_pairwise [] (y ∷ t) = refl
same_pairwise (x ∷ s) [] = refl
same_pairwise (x ∷ s) (y ∷ t) = ap (λ (r : Bool). eqb x y && r) (same_pairwise s t)

pub begins_pairwise : (p s : List ℕ) → pointwise eqb p (take (length p) s) ≡ begins p s
unfolding begins
begins_pairwise [] s = refl
begins_pairwise (x ∷ p) [] = refl
begins_pairwise (x ∷ p) (y ∷ s) = ap (λ (r : Bool). eqb x y && r) (begins_pairwise p s)

-- texts of one length are the same if one begins the other
pub same-begins : (s t : List ℕ) → length s ≡ length t → same s t ≡ begins s t
unfolding same begins
same-begins [] [] h = refl
same-begins [] (y ∷ t) h = absurd (omega arith)
same-begins (x ∷ s) [] h = absurd (omega arith)
same-begins (x ∷ s) (y ∷ t) h = rw (same-begins s t (suc_inj h))

pub same_differ : (s t : List ℕ) → (length s ≡ length t → ⊥) → same s t ≡ false
unfolding same
same_differ [] [] h = absurd (h refl)
same_differ [] (y ∷ t) h = refl
same_differ (x ∷ s) [] h = refl
same_differ (x ∷ s) (y ∷ t) h = rw (same_differ s t (λ e. h (ap suc e))) (and_no (eqb x y))

-- nothing is the same as w exactly if w is empty
pub same_past : (t w : List ℕ) (i : ℕ) → length t ≤ i → eqb (length w) 0 ≡ same (drop i t) w
unfolding same
same_past t [] i h = rw (past t i h)
same_past t (x ∷ w) i h = rw (past t i h) (ne_eqb (length (x ∷ w)) 0 (λ e. omega arith))

-- texts that compare as the same are one text
pub same_is : (s t : List ℕ) → same s t ≡ true → s ≡ t
unfolding same
same_is [] [] h = refl
same_is [] (y ∷ t) h = impossible cc
same_is (x ∷ s) [] h = impossible cc
same_is (x ∷ s) (y ∷ t) h =
    by_bool (eqb x y)
    (λ e. let k = rw e at h in rw (eqb-true x y e, same_is s t k))
    (λ e. let k = rw e at h in impossible cc)
