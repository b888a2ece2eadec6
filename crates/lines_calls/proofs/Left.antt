-- The line starts that are left from a place on: what a loop over the bytes, or over the newline bytes, needs at each turn.
use mathlib.Core.Path.{◌≡◌, refl, sym, ap, ◌∙◌}
use mathlib.Core.Bool.{Bool}
use mathlib.Core.List.{List, [], ◌∷◌}
use Prim.Native.Nat.{ℕ, suc, ◌+◌, ◌≤◌, ◌<◌}
use native.Mathlib.Omega.{arith}
use native.Mathlib.Nat.{add-zero}
use lib.ListN.{length, get_or, drop, length-drop}
use lib.Seq.{drop-drop, get_or-drop}
use lib.Dec.{eqb}
use borrow.Author.Tests.{eq-eqb, ne_eqb}
use Rattle.std.specs.Prelude.{if◌then◌else◌}
use Rattle.laws.specs.Texts.{span, before}
use Rattle.laws.proofs.Choice.{if_all}
use Rattle.laws.proofs.Places.{past, here}
use Rattle.lines.specs.Starts.{newline, starts_from, starts}
use Rattle.lines.proofs.Tests.{by_equal}
use Rattle.lines_calls.specs.Left.{left}

module _ (s : List ℕ) (i : ℕ) where
  pub left_hit : i < length s → get_or s i 0 ≡ newline → left s i ≡ (i + 1) ∷ left s (i + 1)
  unfolding starts_from
  left_hit h e = rw (here s i h, eq-eqb (get_or s i 0) newline e)

  pub left_miss : i < length s → (get_or s i 0 ≡ newline → ⊥) → left s i ≡ left s (i + 1)
  unfolding starts_from
  left_miss h e = rw (here s i h, ne_eqb (get_or s i 0) newline e)

  pub left_end : length s ≤ i → left s i ≡ []
  unfolding starts_from
  left_end h = rw (past s i h)

  -- one byte counted
  pub left_one : i < length s → length (left s i) ≡ (if eqb (get_or s i 0) newline then 1 else 0) + length (left s (i + 1))
  left_one h =
      by_equal (get_or s i 0) newline
      (λ e. rw (eq-eqb (get_or s i 0) newline e, left_hit h e) (omega arith))
      (λ e. rw (ne_eqb (get_or s i 0) newline e, left_miss h e) (omega arith))

-- what `if_newline` says of a byte
newline_most : (x : Bool) {r : ℕ} → r ≡ (if x then 1 else 0) → r ≤ 1
newline_most x e = rw e (if_all (λ (n : ℕ). n ≤ 1) x (omega arith) (omega arith))

-- ---- counting

module _ (s : List ℕ) (at : ℕ) where
  pub counted_none : length (left s at) ≡ 0 + length (left s (at + 0))
  counted_none = rw (add-zero at) (omega arith)

  pub counted_next : (j n : ℕ) {r : ℕ} → at + j < length s → r ≡ (if eqb (get_or s (at + j) 0) newline then 1 else 0)
      → length (left s at) ≡ n + length (left s (at + j)) → (r ≤ 1) × (length (left s at) ≡ n + r + length (left s (at + (j + 1))))
  counted_next j n {r} h e g =
      let z : at + (j + 1) ≡ at + j + 1 = omega arith in
      let l : length (left s (at + j)) ≡ r + length (left s (at + j + 1)) = left_one s (at + j) h ∙ ap (λ (x : ℕ). x + length (left s (at + j + 1))) (sym e) in
      let o = newline_most (eqb (get_or s (at + j) 0) newline) e in
      (o, rw z (omega (arith, l, g)))

pub counted_all : (s : List ℕ) (i n : ℕ) → length s ≤ i → length (starts s) ≡ n + length (left s i) → n ≡ length (starts s)
counted_all s i n h g = omega (arith, g, ap length (left_end s i h))

-- ---- whether there is one

-- another byte that is none
pub none_next : (s : List ℕ) (at j : ℕ) → at + j < length s → left s at ≡ left s (at + j) → (get_or s (at + j) 0 ≡ newline → ⊥) → left s at ≡ left s (at + (j + 1))
none_next s at j h g e =
    let z : at + j + 1 ≡ at + (j + 1) = omega arith in
    g ∙ left_miss s (at + j) h e ∙ ap (left s) z

-- ---- from one newline byte to the next

skip : (l : List ℕ) (i : ℕ) → starts_from i l ≡ starts_from (i + before newline l) (drop (before newline l) l)
unfolding starts_from span
skip [] i = refl
skip (b ∷ l) i =
    by_equal b newline
    (λ e. rw (eq-eqb b newline e, add-zero i) (rw (eq-eqb b newline e)))
    (λ e.
    let z : i + suc (before newline l) ≡ i + 1 + before newline l = omega arith in
    rw (ne_eqb b newline e, z) (skip l (i + 1)))

stands : (l : List ℕ) → before newline l < length l → get_or l (before newline l) 0 ≡ newline
unfolding span
stands [] = λ h. absurd (omega arith)
stands (b ∷ l) =
    by_equal b newline
    (λ e. rw (eq-eqb b newline e) (λ h. e))
    (λ e. rw (ne_eqb b newline e) (λ h. stands l (omega arith)))

module _ (s : List ℕ) (i : ℕ) {r : ℕ} (e : r ≡ i + before newline (drop i s)) where
  pub found_left : left s i ≡ left s r
  found_left = rw e (skip (drop i s) i ∙ ap (starts_from (i + before newline (drop i s))) (drop-drop (before newline (drop i s)) i s))

  pub found_stands : r < length s → get_or s r 0 ≡ newline
  found_stands h =
      rw e (sym (get_or-drop i s (before newline (drop i s)) 0) ∙ stands (drop i s) (omega (arith, e, length-drop i s)))
