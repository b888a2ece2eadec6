-- A run tested many elements at once: a block passes just if the run has as many elements, and then the run goes on past it.
use Prim.Native.Nat.{ℕ, zero, suc, ◌+◌, ◌≤◌, ◌<◌}
use native.Mathlib.Omega.{arith}
use native.Mathlib.Nat.{suc-add}
use mathlib.Core.Path.{◌≡◌, refl, ap, sym, ◌∙◌}
use mathlib.Core.List.{List, [], ◌∷◌}
use mathlib.Core.Bool.{Bool, true, false, ◌&&◌}
use lib.Dec.{leb, leb-suc-suc}
use lib.ListN.{length, get_or, drop, length-drop}
use lib.Seq.{drop-drop, get_or-drop}
use borrow.Author.Tests.{le-leb, lt-leb, leb-true}
use Rattle.std.specs.Prelude.{if◌then◌else◌}
use Rattle.laws.specs.Texts.{span}
use Rattle.laws.proofs.Runs.{span_le}

module _ (f : ℕ → Bool) where
  -- a run of j goes on if the element past it passes
  span_next : (l : List ℕ) (j : ℕ) → j < length l → leb (j + 1) (span f l) ≡ (leb j (span f l) && f (get_or l j 0))
  unfolding span
  span_next [] j h = absurd (omega arith)
  span_next (b ∷ l) zero h = go (f b)
    where
      go : (x : Bool) → leb (0 + 1) (if x then suc (span f l) else 0) ≡ (leb 0 (if x then suc (span f l) else 0) && x)
      go true = rw (le-leb 1 (suc (span f l)) (omega arith), le-leb 0 (suc (span f l)) (omega arith))
      go false = refl
  span_next (b ∷ l) (suc j) h = go (f b) (span_next l j (omega arith))
    where
      go : (x : Bool) → leb (j + 1) (span f l) ≡ (leb j (span f l) && f (get_or l j 0))
          → leb (suc j + 1) (if x then suc (span f l) else 0) ≡ (leb (suc j) (if x then suc (span f l) else 0) && f (get_or l j 0))
      go true e =
          ap (λ (n : ℕ). leb n (suc (span f l))) (suc-add j 1) ∙ leb-suc-suc (j + 1) (span f l) ∙ e
          ∙ ap (λ (x : Bool). x && f (get_or l j 0)) (sym (leb-suc-suc j (span f l)))
      go false e = rw (lt-leb (suc j + 1) 0 (omega arith), lt-leb (suc j) 0 (omega arith))

  -- n elements of a run passed at once
  span_jump : (l : List ℕ) (n : ℕ) → n ≤ span f l → span f l ≡ n + span f (drop n l)
  unfolding span
  span_jump l zero h = omega arith
  span_jump [] (suc n) h = absurd (omega arith)
  span_jump (b ∷ l) (suc n) h = go (f b) (λ k. span_jump l n k) h
    where
      go : (x : Bool) → (n ≤ span f l → span f l ≡ n + span f (drop n l)) → suc n ≤ (if x then suc (span f l) else 0)
          → (if x then suc (span f l) else 0) ≡ suc n + span f (drop n l)
      go true ih h = let e = ih (omega arith) in omega arith
      go false ih h = absurd (omega arith)

  module _ (s : List ℕ) (at : ℕ) where
    -- one element more of a block
    pub block_next : (j : ℕ) (x : Bool) → at + j < length s → x ≡ leb j (span f (drop at s)) → (x && f (get_or s (at + j) 0)) ≡ leb (j + 1) (span f (drop at s))
    block_next j x h e = rw (e, ← (get_or-drop at s j 0)) (sym (span_next (drop at s) j (omega (arith, length-drop at s))))

    -- too few elements are left for it
    pub block_short : (n : ℕ) → length s < at + n → 0 < n → leb n (span f (drop at s)) ≡ false
    block_short n h k = lt-leb n (span f (drop at s)) (omega (arith, span_le f (drop at s), length-drop at s))

    -- a block that passed its test is within the text, and the run goes on past it
    module _ (n : ℕ) {r : Bool} (e : r ≡ leb n (span f (drop at s))) (t : r ≡ true) where
      pub block_room : 0 < n → at + n ≤ length s
      block_room h = omega (arith, leb-true n (span f (drop at s)) (sym e ∙ t), span_le f (drop at s), length-drop at s)

      pub block_on : at + n + span f (drop (at + n) s) ≡ at + span f (drop at s)
      block_on = rw (← drop-drop n at s) (omega (arith, span_jump (drop at s) n (leb-true n (span f (drop at s)) (sym e ∙ t))))
