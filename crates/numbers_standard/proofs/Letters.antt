-- A letter's case, and a text compared with a word without regard to it: what a loop that walks both needs at each turn.
use Rattle.laws.specs.Letters.{to_lower, lower}
use Rattle.laws.specs.Quoted.{code, within}
use Rattle.laws.specs.Texts.{same}
use Rattle.laws.proofs.Choice.{by_bool, within_below, within_from, within_is}
use Rattle.laws.proofs.Places.{past, here}
use Prim.Native.Nat.{ℕ, ◌+◌, ◌≤◌, ◌<◌}
use mathlib.Core.Path.{◌≡◌}
use mathlib.Core.Bool.{false}
use mathlib.Core.List.{List, map}
use mathlib.Core.Logic.{◌⊎◌, inl, inr}
use lib.ListN.{length, get_or, drop}
use lib.Dec.{leb}
use borrow.Author.Tests.{eq-eqb, ne_eqb, le-leb, lt-leb, leb-true, leb-false}

module _ (c : ℕ) where
  pub lower_below : c < code "A" → c ≡ lower c
  unfolding lower
  lower_below h = simp (← within_below (code "A") (code "Z") c h)

  module _ (a : code "A" ≤ c) where
    pub lower_upper : c ≤ code "Z" → c + to_lower ≡ lower c
    unfolding lower
    lower_upper h = simp (← within_from (code "A") (code "Z") c a, le-leb c (code "Z") h)

    pub lower_above : code "Z" < c → c ≡ lower c
    unfolding lower
    lower_above h = simp (← within_from (code "A") (code "Z") c a, lt-leb c (code "Z") h)

  -- a character whose lower case is x: x itself, or that letter in upper case
  abbrev pub UpperOf : ℕ → Type 0
  UpperOf x = (code "A" ≤ c) × (c ≤ code "Z") × (c + to_lower ≡ x)

  pub lower_is : (x : ℕ) → lower c ≡ x → (c ≡ x) ⊎ UpperOf x
  unfolding lower
  lower_is x h =
      by_bool (within (code "A") (code "Z") c)
      (λ e. let w = within_is (code "A") (code "Z") c e in inr (w.0, w.1, rw e at h))
      (λ e. inl (rw e at h))

-- the rest of t from i on, in lower case, and that of w from j on
module _ (t : List ℕ) (i : ℕ) (w : List ℕ) (j : ℕ) where
  pub spells_short : length t ≤ i → j < length w → false ≡ same (map lower (drop i t)) (drop j w)
  unfolding same
  spells_short h k = simp (past t i h, here w j k)

  pub spells_end : length w ≤ j → leb (length t) i ≡ same (map lower (drop i t)) (drop j w)
  unfolding same
  spells_end k =
      by_bool (leb (length t) i)
      (λ e. rw e (simp (past t i (leb-true (length t) i e), past w j k)))
      (λ e. rw e (simp (here t i (leb-false (length t) i e), past w j k)))

  module _ (h : i < length t) (k : j < length w) (x : ℕ) (e : x ≡ lower (get_or t i 0)) where
    pub spells_not : (x ≡ get_or w j 0 → ⊥) → false ≡ same (map lower (drop i t)) (drop j w)
    unfolding same
    spells_not n = simp (here t i h, here w j k, ← e, ne_eqb x (get_or w j 0) n)

    pub spells_more : x ≡ get_or w j 0 → same (map lower (drop i t)) (drop j w) ≡ same (map lower (drop (i + 1) t)) (drop (j + 1) w)
    unfolding same
    spells_more n = simp (here t i h, here w j k, ← e, eq-eqb x (get_or w j 0) n)
