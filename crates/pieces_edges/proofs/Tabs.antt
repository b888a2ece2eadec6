-- Tabs passed one by one.
use Rattle.std.proofs.Common.{◌≡◌, ℕ, suc, ◌+◌, ◌<◌, List, [], ◌∷◌, length, get_or, drop, refl, add-one, arith, drop-cons, ne_eqb}
use Rattle.pieces_edges.specs.Fields.{still_of, past_tabs}

pub no_tabs : (n : ℕ) (s : List ℕ) → n ≡ 0 → past_tabs n s ≡ 0
unfolding past_tabs
no_tabs n [] e = refl
no_tabs n (b ∷ s) e = rw e

pub tabs_end : (n : ℕ) → past_tabs n [] ≡ 0
unfolding past_tabs
tabs_end n = refl

-- one byte on
module _ (n i : ℕ) (line : List ℕ) (pos : 0 < n) (h : i < length line) where
  one_on : past_tabs n (drop i line) ≡ suc (past_tabs (still_of n (get_or line i 0)) (drop (i + 1) line))
  unfolding past_tabs
  one_on = rw (add-one i, drop-cons line i 0 h, ne_eqb n 0 (λ z. omega arith))

  pub tabs_on : i + 1 + past_tabs (still_of n (get_or line i 0)) (drop (i + 1) line) ≡ i + past_tabs n (drop i line)
  tabs_on = omega (arith, one_on)
