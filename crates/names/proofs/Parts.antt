-- Words and bytes after one name more.
use Prim.Native.Nat.{ℕ, zero, suc, ◌+◌, ◌-◌, ◌*◌, ◌≤◌, ◌<◌}
use native.Mathlib.Omega.{arith}
use borrow.Author.Tests.{eq-eqb, leb-true, leb-false}
use mathlib.Core.Path.{◌≡◌, refl, sym, ap, ◌∙◌}
use mathlib.Core.Logic.{◌⊎◌, inl, inr, ⊎_elim}
use mathlib.Core.Bool.{true}
use mathlib.Core.List.{List, [], ◌∷◌, ◌++◌, append_assoc}
use lib.Dec.{leb}
use lib.ListN.{length, get_or, take, drop, set, length-append, length-set}
use lib.Seq.{get_or-set_same, get_or-set_other, take-append-le, drop-append-add, drop_at, take_at, take-take, drop-drop, length-take-le, take-nil}
use Rattle.laws.specs.Texts.{same}
use Rattle.laws.proofs.Choice.{by_bool}
use Rattle.names.specs.Layout.{count, bound, used, slot, half_names, first_bound, first_slot, index_slots, half_words, table_words}
use Rattle.names.specs.Call.{slot_word, new_words, laid}

-- equal texts are equal
pub same_refl : (s : List ℕ) → same s s ≡ true
unfolding same
same_refl [] = refl
same_refl (x ∷ xs) = rw (eq-eqb x x refl) (same_refl xs)

-- a part is what is dropped of what is taken
pub drop-take : (f t : ℕ) (l : List ℕ) → f ≤ t → take (t - f) (drop f l) ≡ drop f (take t l)
drop-take zero t l h = let e : t - 0 ≡ t = omega arith in rw e
drop-take (suc f) zero l h = absurd (omega arith)
drop-take (suc f) (suc t) [] h = take-nil (suc t - suc f)
drop-take (suc f) (suc t) (x ∷ l) h = let e : suc t - suc f ≡ t - f = omega arith in rw e (drop-take f t l (omega arith))

module _ (at : ℕ) (name b : List ℕ) (fits : at + length name ≤ length b) where
  front : length (take at b ++ name) ≡ at + length name
  front = rw (length-append (take at b) name, length-take-le at b (omega arith))

  pub part_before : (f t : ℕ) → f ≤ t → t ≤ at → take (t - f) (drop f (laid at name b)) ≡ take (t - f) (drop f b)
  unfolding laid
  part_before f t h g =
      rw (
        drop-take f t (take at b ++ name ++ drop (at + length name) b) h,
        drop-take f t b h,
        take-append-le t (take at b ++ name) (drop (at + length name) b) (omega (arith, front)),
        take-append-le t (take at b) name (omega (arith, length-take-le at b (omega arith))),
        take-take t at b g,
      )

  pub part_behind : (f : ℕ) → at + length name ≤ f → drop f (laid at name b) ≡ drop f b
  unfolding laid
  part_behind f h =
      let m : ℕ = f - (at + length name) in
      let e : f ≡ length (take at b ++ name) + m = omega (arith, front) in
      let g : f ≡ at + length name + m = omega arith in
      ap (λ (k : ℕ). drop k (take at b ++ name ++ drop (at + length name) b)) e
      ∙ drop-append-add (take at b ++ name) (drop (at + length name) b) m
      ∙ drop-drop m (at + length name) b
      ∙ ap (λ (k : ℕ). drop k b) (sym g)

  pub part_new : take (length name) (drop at (laid at name b)) ≡ name
  unfolding laid
  part_new =
      rw (
        append_assoc (take at b) name (drop (at + length name) b),
        drop_at (take at b) (name ++ drop (at + length name) b) at (length-take-le at b (omega arith)),
      )
      (take_at name (drop (at + length name) b) (length name) refl)

-- three stores
module _ (w : List ℕ) (i a j b k c : ℕ) where
  stores_other : (x : ℕ) → (x ≡ i → ⊥) → (x ≡ j → ⊥) → (x ≡ k → ⊥) → get_or (set (set (set w i a) j b) k c) x 0 ≡ get_or w x 0
  stores_other x f g h =
      get_or-set_other (set (set w i a) j b) k x c 0 h ∙ get_or-set_other (set w i a) j x b 0 g ∙ get_or-set_other w i x a 0 f

  stores_first : i < length w → (i ≡ j → ⊥) → (i ≡ k → ⊥) → get_or (set (set (set w i a) j b) k c) i 0 ≡ a
  stores_first l g h =
      get_or-set_other (set (set w i a) j b) k i c 0 h ∙ get_or-set_other (set w i a) j i b 0 g ∙ get_or-set_same w i a 0 l

  stores_second : j < length w → (j ≡ k → ⊥) → get_or (set (set (set w i a) j b) k c) j 0 ≡ b
  stores_second l h =
      get_or-set_other (set (set w i a) j b) k j c 0 h ∙ get_or-set_same (set w i a) j b 0 (rw (length-set w i a) l)

  stores_last : k < length w → get_or (set (set (set w i a) j b) k c) k 0 ≡ c
  stores_last l = get_or-set_same (set (set w i a) j b) k c 0 (rw (length-set (set w i a) j b, length-set w i a) l)

pub apart : (a b : ℕ) → (a ≡ b → ⊥) → (a + 1 ≤ b) ⊎ (b + 1 ≤ a)
apart a b f = by_bool (leb (a + 1) b) (λ t. inl (leb-true (a + 1) b t)) (λ t. inr (omega (arith, leb-false (a + 1) b t, f)))

module _ (w : List ℕ) (p s t n : ℕ) where
  pub word_other : (i : ℕ) → (i ≡ p * half_words + first_slot + s → ⊥) → (i ≡ p * half_words + first_bound + (count w p + 1) → ⊥) → (i ≡ p * half_words → ⊥)
      → get_or (new_words w p s t n) i 0 ≡ get_or w i 0
  unfolding new_words
  word_other i x y z = stores_other w _ _ _ _ _ _ i x y z

  pub length_new : length (new_words w p s t n) ≡ length w
  unfolding new_words
  length_new = simp length-set

  module _ (room : table_words ≤ length w) (two : p < 2) (few : count w p < half_names) where
    pub new_count : count (new_words w p s t n) p ≡ count w p + 1
    unfolding new_words
    new_count = stores_last w _ _ _ _ (p * half_words) _ (omega arith)

    pub new_bound : bound (new_words w p s t n) p (count w p + 1) ≡ used w p + n
    unfolding new_words
    new_bound = stores_second w _ _ (p * half_words + first_bound + (count w p + 1)) _ (p * half_words) _ (omega arith) (λ e. omega arith)

    pub new_slot : s < index_slots + 1 → slot (new_words w p s t n) p s ≡ slot_word t (count w p)
    unfolding new_words
    new_slot h = stores_first w (p * half_words + first_slot + s) _ _ _ (p * half_words) _ (omega arith) (λ e. omega arith) (λ e. omega arith)

    pub old_slot : (i : ℕ) → i < index_slots → (i ≡ s → ⊥) → slot (new_words w p s t n) p i ≡ slot w p i
    old_slot i h d = word_other (p * half_words + first_slot + i) (λ e. d (omega arith)) (λ e. omega arith) (λ e. omega arith)

    pub old_bound : (k : ℕ) → k ≤ count w p → bound (new_words w p s t n) p k ≡ bound w p k
    old_bound k h = word_other (p * half_words + first_bound + k) (λ e. omega arith) (λ e. omega arith) (λ e. omega arith)

    -- a word of the other half, or past the table
    pub other_word : (q i : ℕ) → q < 2 → (q ≡ p → ⊥) → s < index_slots + 1 → i < half_words → get_or (new_words w p s t n) (q * half_words + i) 0 ≡ get_or w (q * half_words + i) 0
    other_word q i h g j l =
        ⊎_elim
        (λ d. word_other (q * half_words + i) (λ e. omega arith) (λ e. omega arith) (λ e. omega arith))
        (λ d. word_other (q * half_words + i) (λ e. omega arith) (λ e. omega arith) (λ e. omega arith))
        (apart q p g)

    pub other_count : (q : ℕ) → q < 2 → (q ≡ p → ⊥) → s < index_slots + 1 → count (new_words w p s t n) q ≡ count w q
    other_count q h g j = let e : q * half_words ≡ q * half_words + 0 = omega arith in rw e (other_word q 0 h g j (omega arith))

    pub other_bound : (q k : ℕ) → q < 2 → (q ≡ p → ⊥) → s < index_slots + 1 → k ≤ half_names → bound (new_words w p s t n) q k ≡ bound w q k
    other_bound q k h g j i =
        let e : q * half_words + first_bound + k ≡ q * half_words + (first_bound + k) = omega arith in rw e (other_word q (first_bound + k) h g j (omega arith))
