-- Comparing two texts place by place, the first of them in lower case.
use Prim.Native.Nat.{ℕ, ◌+◌, ◌≤◌, ◌<◌}
use mathlib.Core.Path.{◌≡◌, sym, ◌∙◌}
use mathlib.Core.Bool.{true, false}
use mathlib.Core.List.{List, map}
use native.Mathlib.Numerals.{add-one}
use borrow.Author.Tests.{eq-eqb, ne_eqb}
use lib.ListN.{length, get_or, drop, length-map, drop_of_length-le}
use lib.Seq.{drop-cons}
use Rattle.laws.specs.Texts.{same}
use Rattle.laws.proofs.Compared.{same_differ}
use Rattle.items.specs.Meaning.{lower}

module _ (s t : List ℕ) (i : ℕ) where
  pub case_more : i < length s → i < length t → lower (get_or s i 0) ≡ get_or t i 0
      → same (map lower (drop i s)) (drop i t) ≡ same (map lower (drop (i + 1) s)) (drop (i + 1) t)
  unfolding same
  case_more h k e = rw (drop-cons s i 0 h, drop-cons t i 0 k) (rw (eq-eqb (lower (get_or s i 0)) (get_or t i 0) e) (rw (add-one i)))

  pub case_differ : i < length s → i < length t → (lower (get_or s i 0) ≡ get_or t i 0 → ⊥) → same (map lower (drop i s)) (drop i t) ≡ false
  unfolding same
  case_differ h k e = rw (drop-cons s i 0 h, drop-cons t i 0 k) (rw (ne_eqb (lower (get_or s i 0)) (get_or t i 0) e))

  pub case_end : length s ≤ i → length t ≤ i → same (map lower (drop i s)) (drop i t) ≡ true
  unfolding same
  case_end h k = rw (drop_of_length-le s h, drop_of_length-le t k)

pub case_length : (s t : List ℕ) → (length s ≡ length t → ⊥) → same (map lower s) t ≡ false
case_length s t h = same_differ (map lower s) t (λ e. h (sym (length-map s lower) ∙ e))
