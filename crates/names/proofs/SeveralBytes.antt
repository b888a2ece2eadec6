-- Texts compared by several bytes at once: four bytes are one number and one only, and so are eight; equal numbers are equal bytes.
use Prim.Native.Nat.{ℕ, suc, ◌+◌, ◌*◌, ◌≤◌, ◌<◌}
use native.Mathlib.Omega.{arith}
use native.Mathlib.Nat.{suc_inj}
use borrow.Author.Tests.{eq-eqb, eqb-true, eqb-false, ltb-true, ltb-false}
use mathlib.Core.Path.{◌≡◌, refl, sym, ap, ◌∙◌}
use mathlib.Core.Bool.{true, false}
use mathlib.Core.List.{List, [], ◌∷◌}
use lib.Dec.{eqb, ltb}
use lib.ListN.{length, get_or}
use Rattle.laws.specs.Texts.{same}
use Rattle.laws.proofs.Choice.{by_bool}
use Rattle.laws.proofs.Compared.{same_is}
use Rattle.names.specs.Call.{hashes, four}
use Rattle.names.specs.Blocks.{four_at, eight_at}

-- two texts agree before a place
abbrev pub Agree : List ℕ → List ℕ → ℕ → Type 0
Agree s t n = (j : ℕ) → j < n → get_or s j 0 ≡ get_or t j 0

four_once : (a b c d e f g h : ℕ) → a < 256 → b < 256 → c < 256 → d < 256 → e < 256 → f < 256 → g < 256 → h < 256
    → four a b c d ≡ four e f g h → (a ≡ e) × (b ≡ f) × (c ≡ g) × (d ≡ h)
four_once a b c d e f g h a' b' c' d' e' f' g' h' k = (omega arith, omega arith, omega arith, omega arith)

same_agree : (s t : List ℕ) → length s ≡ length t → Agree s t (length s) → same s t ≡ true
unfolding same
same_agree [] [] h a = refl
same_agree [] (y ∷ t) h a = absurd (omega arith)
same_agree (x ∷ s) [] h a = absurd (omega arith)
same_agree (x ∷ s) (y ∷ t) h a = rw (eq-eqb x y (a 0 (omega arith))) (same_agree s t (suc_inj h) (λ j k. a (suc j) (omega arith)))

-- texts that differ in a part are not the same
pub same_not : (part : List ℕ → ℕ) (s t : List ℕ) → (part s ≡ part t → ⊥) → same s t ≡ false
same_not part s t n = by_bool (same s t) (λ e. absurd (n (ap part (same_is s t e)))) (λ e. e)

-- a part decides, where equal parts make the texts agree
pub same_by : (part : List ℕ → ℕ) (s t : List ℕ) {x y : ℕ} → length s ≡ length t → (part s ≡ part t → Agree s t (length s)) → x ≡ part s → y ≡ part t
    → eqb x y ≡ same s t
same_by part s t {x} {y} l a p q =
    by_bool (eqb x y)
    (λ h. h ∙ sym (same_agree s t l (a (sym p ∙ eqb-true x y h ∙ q))))
    (λ h. h ∙ sym (same_not part s t (λ z. eqb-false x y h (p ∙ z ∙ sym q))))

four_small : (s : List ℕ) → ((j : ℕ) → get_or s j 0 < 256) → (i : ℕ) → four_at s i < hashes
four_small s b i = omega (arith, b i, b (i + 1), b (i + 2), b (i + 3))

halves_once : (a b c d : ℕ) → a < hashes → c < hashes → a + b * hashes ≡ c + d * hashes → (a ≡ c) × (b ≡ d)
halves_once a b c d h g e = (omega arith, omega arith)

module _ (s t : List ℕ) (bs : (j : ℕ) → get_or s j 0 < 256) (bt : (j : ℕ) → get_or t j 0 < 256) where
  -- four bytes more
  pub agree_four : (i n : ℕ) → i ≤ n → four_at s i ≡ four_at t i → Agree s t n → Agree s t (i + 4)
  agree_four i n k e a j h =
      let q = four_once _ _ _ _ _ _ _ _ (bs i) (bs (i + 1)) (bs (i + 2)) (bs (i + 3)) (bt i) (bt (i + 1)) (bt (i + 2)) (bt (i + 3)) e in
      by_bool (ltb j n) (λ x. a j (ltb-true j n x)) (λ x.
      by_bool (ltb j (i + 1)) (λ y. let v : j ≡ i = omega (arith, ltb-true j (i + 1) y, ltb-false j n x) in rw v q.0) (λ y.
      by_bool (ltb j (i + 2)) (λ y'. let v : j ≡ i + 1 = omega (arith, ltb-true j (i + 2) y', ltb-false j (i + 1) y) in rw v q.1) (λ y'.
      by_bool (ltb j (i + 3)) (λ z. let v : j ≡ i + 2 = omega (arith, ltb-true j (i + 3) z, ltb-false j (i + 2) y') in rw v q.2) (λ z.
      let v : j ≡ i + 3 = omega (arith, ltb-false j (i + 3) z) in rw v q.3))))

  -- eight bytes more
  pub agree_eight : (i n : ℕ) → i ≤ n → eight_at s i ≡ eight_at t i → Agree s t n → Agree s t (i + 8)
  agree_eight i n k e a j h =
      let q = halves_once _ _ _ _ (four_small s bs i) (four_small t bt i) e in
      agree_four (i + 4) (i + 4) (omega arith) q.1 (agree_four i n k q.0 a) j (omega arith)
