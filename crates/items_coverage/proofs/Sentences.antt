-- The three sentences follow from the cover alone, whatever the text and the records. Crate `items` has order and count of the definition's
-- items (`items_order`, `items_count`); here they hold of records, and two that share an extent are told to be a pair.
use Rattle.laws.specs.Quoted.{code, codes}
use Rattle.laws.specs.Texts.{begins}
use Rattle.laws.proofs.Choice.{by_bool, if_all}
use Rattle.laws.proofs.Runs.{before_le}
use Rattle.chars.specs.Encode.{utf8, bytes_of}
use Rattle.chars.proofs.Width.{wide, width-utf8}
use Rattle.items_coverage.specs.Covered.{Seen, past, Covers, ends, blank, one, pair, opening, Covered}
use Rattle.items_coverage.specs.Sentences.{nth, Pair, InOrder, InText, Belongs, to_extent, to_blank, to_opening, NoneUnseen, NotMore}
use Rattle.items_coverage.proofs.Bytes.{bytes_some, passed}
use Prim.Native.Nat.{ℕ, zero, suc, ◌+◌, ◌≤◌, ◌<◌}
use mathlib.Core.Path.{◌≡◌, refl, sym, ap, ◌∙◌}
use mathlib.Core.List.{List, ◌∷◌, ◌++◌}
use mathlib.Core.Logic.{◌⊎◌, inl, inr}
use lib.ListN.{length, get_or, take, drop, length-append, length-drop}
use lib.Seq.{take-append_seam, get_or-drop}
use lib.Dec.{ltb}
use native.Mathlib.Omega.{arith}
use native.Mathlib.Nat.{le_refl, add-zero}
use borrow.Author.Tests.{ltb-true, ltb-false}

pub plus_pair : (c : ℕ) (t : List ℕ) → 1 < length (bytes_of (code "+" ∷ c ∷ t))
unfolding bytes_of
plus_pair c t =
    omega (arith, length-append (utf8 (code "+")) (bytes_of (c ∷ t)), bytes_some c t, width-utf8 (code "+"), wide (code "+"))

-- the records from a place on start there or later
pub onward : {at : ℕ} {bs : List ℕ} {rs : List Seen} → Covers at bs rs → (j : ℕ) → j < length rs → at ≤ (nth rs j).start
onward ends j h = absurd (omega arith)
onward (blank c b k) j h = omega (arith, onward k j h)
onward (one k c t m) zero h = le_refl _
onward (one k c t m) (suc j) h = omega (arith, onward m j (omega arith))
onward (pair c t m) zero h = le_refl _
onward (pair c t m) (suc zero) h = le_refl _
onward (pair c t m) (suc (suc j)) h = omega (arith, onward m j (omega arith))

inside : {at : ℕ} {bs : List ℕ} {rs : List Seen} → Covers at bs rs → (i : ℕ) → i < length rs
    → ((nth rs i).start < (nth rs i).end) × ((nth rs i).end ≤ at + length bs)
inside ends i h = absurd (omega arith)
inside (blank c {bs} b k) i h = let r = inside k i h in (r.0, omega (arith, length-append (utf8 c) bs))
inside (one k c t {bs} m) zero h = (omega (arith, bytes_some c t), omega (arith, length-append (bytes_of (c ∷ t)) bs))
inside (one k c t {bs} m) (suc i) h = let r = inside m i (omega arith) in (r.0, omega (arith, length-append (bytes_of (c ∷ t)) bs))
inside (pair c t {bs} m) zero h = (omega (arith, plus_pair c t), omega (arith, length-append (bytes_of (code "+" ∷ c ∷ t)) bs))
inside (pair c t {bs} m) (suc zero) h = (omega (arith, plus_pair c t), omega (arith, length-append (bytes_of (code "+" ∷ c ∷ t)) bs))
inside (pair c t {bs} m) (suc (suc i)) h = let r = inside m i (omega arith) in (r.0, omega (arith, length-append (bytes_of (code "+" ∷ c ∷ t)) bs))

pub fewer : {at : ℕ} {bs : List ℕ} {rs : List Seen} → Covers at bs rs → length rs ≤ length bs
fewer ends = le_refl 0
fewer (blank c {bs} b k) = omega (arith, fewer k, length-append (utf8 c) bs)
fewer (one k c t {bs} m) = omega (arith, fewer m, length-append (bytes_of (c ∷ t)) bs, bytes_some c t)
fewer (pair c t {bs} m) = omega (arith, fewer m, length-append (bytes_of (code "+" ∷ c ∷ t)) bs, plus_pair c t)

-- in the whole text, where the bytes bs stand at the place `at`
module _ (whole : List ℕ) where
  plus_at : (at c : ℕ) (t bs : List ℕ) → drop at whole ≡ bytes_of (code "+" ∷ c ∷ t) ++ bs → get_or whole at 0 ≡ code "+"
  unfolding bytes_of utf8
  plus_at at c t bs e = rw (add-zero at) at (sym (get_or-drop at whole 0 0) ∙ ap (λ (l : List ℕ). get_or l 0 0) e)

  -- with one more record before them
  later : (q r : Seen) (i j : ℕ) → (q.end ≤ r.start) ⊎ ((j ≡ suc i) × Pair whole q r) → (q.end ≤ r.start) ⊎ ((suc j ≡ suc (suc i)) × Pair whole q r)
  later q r i j (inl a) = inl a
  later q r i j (inr a) = inr (ap suc a.0, a.1)

  ordered : {at : ℕ} {bs : List ℕ} {rs : List Seen} → Covers at bs rs → drop at whole ≡ bs → InOrder whole rs
  ordered ends e i j h g = absurd (omega arith)
  ordered {at} (blank c {bs} b m) e i j h g = ordered m (passed whole at (utf8 c) bs e) i j h g
  ordered {at} (one k c t {bs} m) e zero zero h g = absurd (omega arith)
  ordered {at} (one k c t {bs} m) e zero (suc j) h g = inl (onward m j (omega arith))
  ordered {at} (one k c t {bs} m) e (suc i) zero h g = absurd (omega arith)
  ordered {at} (one k c t {bs} {rs} m) e (suc i) (suc j) h g = later (nth rs i) (nth rs j) i j (ordered m (passed whole at (bytes_of (c ∷ t)) bs e) i j (omega arith) (omega arith))
  ordered {at} (pair c t {bs} m) e zero zero h g = absurd (omega arith)
  ordered {at} (pair c t {bs} m) e zero (suc zero) h g =
      inr (refl, record { first = refl; second = refl; start = refl; end = refl; plus = plus_at at c t bs e })
  ordered {at} (pair c t {bs} m) e zero (suc (suc j)) h g = inl (onward m j (omega arith))
  ordered {at} (pair c t {bs} m) e (suc i) zero h g = absurd (omega arith)
  ordered {at} (pair c t {bs} m) e (suc zero) (suc zero) h g = absurd (omega arith)
  ordered {at} (pair c t {bs} m) e (suc zero) (suc (suc j)) h g = inl (onward m j (omega arith))
  ordered {at} (pair c t {bs} m) e (suc (suc i)) (suc zero) h g = absurd (omega arith)
  ordered {at} (pair c t {bs} {rs} m) e (suc (suc i)) (suc (suc j)) h g =
      later (nth rs i) (nth rs j) (suc i) (suc j)
      (later (nth rs i) (nth rs j) i j (ordered m (passed whole at (bytes_of (code "+" ∷ c ∷ t)) bs e) i j (omega arith) (omega arith)))

  -- with more records before them
  behind : {rs : List Seen} (r : Seen) {p : ℕ} → Belongs whole rs p → Belongs whole (r ∷ rs) p
  behind r (to_extent i h a b) = to_extent (suc i) (omega arith) a b
  behind r (to_blank c from b e a g) = to_blank c from b e a g
  behind r (to_opening h) = to_opening h

  belongs : {at : ℕ} {bs : List ℕ} {rs : List Seen} → Covers at bs rs → drop at whole ≡ bs → (p : ℕ) → at ≤ p → p < at + length bs → Belongs whole rs p
  belongs {at} ends e p a h = absurd (omega arith)
  belongs {at} (blank c {bs} b m) e p a h = by_bool (ltb p (at + length (utf8 c)))
      (λ f. to_blank c at b (ap (take (length (utf8 c))) e ∙ take-append_seam (utf8 c) bs) a (ltb-true p (at + length (utf8 c)) f))
      (λ f. belongs m (passed whole at (utf8 c) bs e) p (ltb-false p (at + length (utf8 c)) f) (omega (arith, length-append (utf8 c) bs)))
  belongs {at} (one k c t {bs} m) e p a h = by_bool (ltb p (past at (c ∷ t)))
      (λ f. to_extent 0 (omega arith) a (ltb-true p (past at (c ∷ t)) f))
      (λ f. behind _ (belongs m (passed whole at (bytes_of (c ∷ t)) bs e) p (ltb-false p (past at (c ∷ t)) f) (omega (arith, length-append (bytes_of (c ∷ t)) bs))))
  belongs {at} (pair c t {bs} m) e p a h = by_bool (ltb p (past at (code "+" ∷ c ∷ t)))
      (λ f. to_extent 0 (omega arith) a (ltb-true p (past at (code "+" ∷ c ∷ t)) f))
      (λ f. behind _ (behind _ (belongs m (passed whole at (bytes_of (code "+" ∷ c ∷ t)) bs e) p (ltb-false p (past at (code "+" ∷ c ∷ t)) f)
      (omega (arith, length-append (bytes_of (code "+" ∷ c ∷ t)) bs)))))

-- ---- the sentences

pub opening_le : (bytes : List ℕ) → opening bytes ≤ length bytes
unfolding opening
opening_le bytes = if_all (λ (n : ℕ). n ≤ length bytes) (begins (codes "#!") bytes) (before_le (code "\n") bytes) (omega arith)

module _ (bytes : List ℕ) (rs : List Seen) (h : Covered bytes rs) where
  -- "extents come in order and don't overlap, except that the second item of a `+` pair repeats the first's extent"
  pub in_order : InOrder bytes rs
  in_order = ordered bytes h refl

  pub in_text : InText bytes rs
  in_text i g = let r = inside h i g in (r.0, omega (arith, length-drop (opening bytes) bytes, opening_le bytes))

  -- "every byte outside them belongs to a blank or to the opening `#!` line"
  pub none_unseen : NoneUnseen bytes rs
  none_unseen p g = by_bool (ltb p (opening bytes))
      (λ f. to_opening (ltb-true p (opening bytes) f))
      (λ f. let a : opening bytes ≤ p = ltb-false p (opening bytes) f in belongs bytes h refl p a (omega (arith, length-drop (opening bytes) bytes)))

  -- "items never outnumber bytes"
  pub not_more : NotMore bytes rs
  not_more = omega (arith, fewer h, length-drop (opening bytes) bytes)
