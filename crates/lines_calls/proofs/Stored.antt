-- The line starts stored one after the other, byte by byte or a block at a time.
use mathlib.Core.Path.{◌≡◌, refl, sym, ap, ◌∙◌}
use mathlib.Core.List.{List, [], ◌∷◌, ◌++◌, append_assoc, append-nil}
use Prim.Native.Nat.{ℕ, ◌+◌, ◌≤◌, ◌<◌}
use native.Mathlib.Omega.{arith}
use lib.ListN.{length, get_or, set, length-set, length-append}
use borrow.Author.Tests.{eq-eqb, ne_eqb}
use Rattle.laws.specs.Lent.{written}
use Rattle.laws.proofs.Lent.{written_push}
use Rattle.lines.specs.Starts.{newline, starts_from, starts}
use Rattle.lines.proofs.Tests.{by_equal}
use Rattle.lines_calls.specs.Left.{block, left, stored, Storing}
use Rattle.lines_calls.proofs.Left.{left_hit, left_miss, left_end}

-- stored after w, all of it is written
pub stored-written : (l w old : List ℕ) → length w + length l ≤ length old → stored (length w) l (written w old) ≡ written (w ++ l) old
unfolding stored
stored-written [] w old h = ap (λ (x : List ℕ). written x old) (sym (append-nil w))
stored-written (v ∷ l) w old h =
    let more : length (w ++ (v ∷ [])) ≡ length w + 1 = length-append w (v ∷ []) in
    let room : length (w ++ (v ∷ [])) + length l ≤ length old = omega (arith, more) in
    let free : length w < length old = omega arith in
    ap (λ (m : List ℕ). stored (length w + 1) l m) (written_push w old v free)
    ∙ ap (λ (n : ℕ). stored n l (written (w ++ (v ∷ [])) old)) (sym more)
    ∙ stored-written l (w ++ (v ∷ [])) old room
    ∙ ap (λ (x : List ℕ). written x old) (append_assoc w (v ∷ []) l)

-- ---- storing

pub storing_start : (s old : List ℕ) (n i : ℕ) → Storing s old n i old n i
storing_start s old n i = record { size = refl; count = refl; rest = refl }

pub storing_then : (s : List ℕ) {a b c : List ℕ} {n i k j m l : ℕ} → Storing s a n i b k j → Storing s b k j c m l → Storing s a n i c m l
storing_then s g h = record { size = h.size ∙ g.size; count = g.count ∙ h.count; rest = g.rest ∙ h.rest }

module _ (s old : List ℕ) (n from k i : ℕ) {now : List ℕ} (g : Storing s old n from now k i) where
  pub storing_hit : i < length s → get_or s i 0 ≡ newline → Storing s old n from (set now k (i + 1)) (k + 1) (i + 1)
  unfolding stored
  storing_hit h e = record {
    size = length-set now k (i + 1) ∙ g.size;
    count = g.count ∙ omega (arith, ap length (left_hit s i h e));
    rest = g.rest ∙ ap (λ (l : List ℕ). stored k l now) (left_hit s i h e);
  }

  pub storing_miss : i < length s → (get_or s i 0 ≡ newline → ⊥) → Storing s old n from now k (i + 1)
  storing_miss h e = record {
    size = g.size;
    count = g.count ∙ ap (λ (l : List ℕ). k + length l) (left_miss s i h e);
    rest = g.rest ∙ ap (λ (l : List ℕ). stored k l now) (left_miss s i h e);
  }

  pub storing_room : n + length (left s from) ≤ length old → i < length s → get_or s i 0 ≡ newline → k < length now
  storing_room f h e = omega (arith, g.count, g.size, ap length (left_hit s i h e))

  pub storing_fits : n + length (left s from) ≤ length old → k + length (left s i) ≤ length now
  storing_fits f = omega (arith, g.count, g.size)

-- ---- a block

-- no newline byte stands in it
pub storing_none : (s old : List ℕ) (at n : ℕ) → left s at ≡ left s (at + block) → Storing s old n at old n (at + block)
storing_none s old at n e = record { size = refl; count = ap (λ (l : List ℕ). n + length l) e; rest = ap (λ (l : List ℕ). stored n l old) e }

-- ---- all of them

first_written : (old : List ℕ) → 1 ≤ length old → set old 0 0 ≡ written (0 ∷ []) old
first_written [] h = absurd (omega arith)
first_written (x ∷ l) h = refl

pub stored_all : (s old : List ℕ) (r i : ℕ) {out : List ℕ} → length (starts s) ≤ length old → length s ≤ i → Storing s (set old 0 0) 1 0 out r i
    → out ≡ written (starts s) old
unfolding stored
stored_all s old r i {out} f h g =
    let done : stored 1 (starts_from 0 s) (set old 0 0) ≡ out = g.rest ∙ ap (λ (l : List ℕ). stored r l out) (left_end s i h) in
    sym done ∙ ap (λ (m : List ℕ). stored 1 (starts_from 0 s) m) (first_written old (omega arith)) ∙ stored-written (starts_from 0 s) (0 ∷ []) old (omega arith)

pub first_fits : (s old : List ℕ) → length (starts s) ≤ length old → 1 + length (left s 0) ≤ length (set old 0 0)
first_fits s old h = rw (length-set old 0 0) (omega arith)

pub stored_count : (s old : List ℕ) (r i : ℕ) {out : List ℕ} → length s ≤ i → Storing s old 1 0 out r i → r ≡ length (starts s)
stored_count s old r i h g = omega (arith, g.count, ap length (left_end s i h))

-- a text has no more line starts than bytes, and one
from_most : (s : List ℕ) (at : ℕ) → length (starts_from at s) ≤ length s
unfolding starts_from
from_most [] at = omega arith
from_most (b ∷ s) at =
    by_equal b newline
    (λ e. rw (eq-eqb b newline e) (omega (arith, from_most s (at + 1))))
    (λ e. rw (ne_eqb b newline e) (omega (arith, from_most s (at + 1))))

pub starts_most : (s : List ℕ) {n : ℕ} → length s < n → length (starts s) ≤ n
starts_most s h = omega (arith, from_most s 0)
