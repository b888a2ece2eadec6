-- A text that breaks off: the records that end before it does cover the part before the extent that its end cuts off.
use Rattle.std.specs.Prelude.{if◌then◌else◌}
use Rattle.laws.specs.Quoted.{code, codes}
use Rattle.laws.specs.Texts.{span, begins}
use Rattle.laws.proofs.Choice.{by_bool, and_true}
use Rattle.laws.proofs.Places.{cut_before}
use Rattle.chars.specs.Encode.{utf8, bytes_of}
use Rattle.items_coverage.specs.Covered.{Seen, seen, past, Covers, ends, blank, one, pair, opening, Covered}
use Rattle.items_coverage.proofs.Sentences.{fewer, opening_le}
use Rattle.items.specs.Kinds as kind
use Prim.Native.Nat.{ℕ, zero, suc, ◌+◌, ◌-◌, ◌≤◌, ◌<◌}
use mathlib.Core.Path.{◌≡◌, refl, sym, ap}
use mathlib.Core.Bool.{Bool, true, false, not, ◌&&◌, true≢false}
use mathlib.Core.List.{List, [], ◌∷◌, ◌++◌}
use lib.ListN.{length, take, drop, length-append, length-drop}
use lib.Seq.{take-append-add, take-nil}
use lib.Dec.{eqb, ltb}
use native.Mathlib.Omega.{arith}
use borrow.Author.Tests.{lt-ltb, le-ltb, eqb-true, eqb-false}

-- the records that end before the place n
abbrev pub early : ℕ → List Seen → List Seen
early n [] = []
early n (r ∷ rs) = if ltb r.end n then r ∷ early n rs else early n rs

-- where the last one starts, if it ends at n; else n
abbrev pub cut_off : ℕ → List Seen → ℕ
cut_off n [] = n
cut_off n (r ∷ []) = if eqb r.end n then r.start else n
cut_off n (r ∷ s ∷ rs) = cut_off n (s ∷ rs)

cut_later : (n : ℕ) (r : Seen) (rs : List Seen) → eqb r.end n ≡ false → cut_off n (r ∷ rs) ≡ cut_off n rs
cut_later n r [] e = rw e
cut_later n r (s ∷ rs) e = refl

-- the part up to the place p of bytes u ++ bs that stand at the place `at`
cut_part : (at p : ℕ) (u bs : List ℕ) → at + length u ≤ p → take (p - at) (u ++ bs) ≡ u ++ take (p - (at + length u)) bs
cut_part at p u bs h = let e : p - at ≡ length u + (p - (at + length u)) = omega arith in rw e (take-append-add u bs (p - (at + length u)))

record Cut (n at : ℕ) (bs : List ℕ) (rs : List Seen) : Type 0 where
  covers : Covers at (take (cut_off n rs - at) bs) (early n rs)
  low : at ≤ cut_off n rs
  high : cut_off n rs ≤ n

nothing_left : (at : ℕ) (bs : List ℕ) → Covers at (take (at - at) bs) []
nothing_left at bs = let e : at - at ≡ 0 = omega arith in rw e ends

-- a record whose extent ends before n
one_on : (n at k c : ℕ) (t bs : List ℕ) (rs : List Seen) → eqb (past at (c ∷ t)) n ≡ false → ltb (past at (c ∷ t)) n ≡ true
    → Cut n (past at (c ∷ t)) bs rs
    → Cut n at (bytes_of (c ∷ t) ++ bs) (seen k at (past at (c ∷ t)) ∷ rs)
one_on n at k c t bs rs e f h =
    let r : Seen = seen k at (past at (c ∷ t)) in
    let p : cut_off n (r ∷ rs) ≡ cut_off n rs = cut_later n r rs e in
    record {
      covers = rw (p, f, cut_part at (cut_off n rs) (bytes_of (c ∷ t)) bs h.low) (one k c t h.covers);
      low = rw p (omega (arith, h.low));
      high = rw p h.high;
    }

pair_on : (n at c : ℕ) (t bs : List ℕ) (rs : List Seen) → eqb (past at (code "+" ∷ c ∷ t)) n ≡ false → ltb (past at (code "+" ∷ c ∷ t)) n ≡ true
    → Cut n (past at (code "+" ∷ c ∷ t)) bs rs
    → Cut n at (bytes_of (code "+" ∷ c ∷ t) ++ bs)
    (seen kind.Identifier at (past at (code "+" ∷ c ∷ t)) ∷ seen kind.Identifier at (past at (code "+" ∷ c ∷ t)) ∷ rs)
pair_on n at c t bs rs e f h =
    let r : Seen = seen kind.Identifier at (past at (code "+" ∷ c ∷ t)) in
    let p : cut_off n (r ∷ rs) ≡ cut_off n rs = cut_later n r rs e in
    record {
      covers = rw (p, f, cut_part at (cut_off n rs) (bytes_of (code "+" ∷ c ∷ t)) bs h.low) (pair c t h.covers);
      low = rw p (omega (arith, h.low));
      high = rw p h.high;
    }

-- where the extent ends with the text, no record is left
empty : (rs : List Seen) → length rs ≤ 0 → rs ≡ []
empty [] h = refl
empty (r ∷ rs) h = absurd (omega arith)

no_record : {at : ℕ} {bs : List ℕ} {rs : List Seen} → Covers at bs rs → length bs ≡ 0 → rs ≡ []
no_record {at} {bs} {rs} m h = empty rs (omega (arith, fewer m))

less : (a n k : ℕ) → n ≡ a + k → eqb a n ≡ false → a < n
less a n zero h e = absurd (eqb-false a n e (omega arith))
less a n (suc k) h e = omega arith

one_off : (n at k c : ℕ) (t bs : List ℕ) → eqb (past at (c ∷ t)) n ≡ true → past at (c ∷ t) ≡ n
    → Cut n at (bytes_of (c ∷ t) ++ bs) (seen k at (past at (c ∷ t)) ∷ [])
one_off n at k c t bs e f = record {
  covers = rw (e, le-ltb (past at (c ∷ t)) n (omega arith)) (nothing_left at (bytes_of (c ∷ t) ++ bs));
  low = rw e (omega arith);
  high = rw e (omega arith);
}

pair_off : (n at c : ℕ) (t bs : List ℕ) → eqb (past at (code "+" ∷ c ∷ t)) n ≡ true → past at (code "+" ∷ c ∷ t) ≡ n
    → Cut n at (bytes_of (code "+" ∷ c ∷ t) ++ bs)
    (seen kind.Identifier at (past at (code "+" ∷ c ∷ t)) ∷ seen kind.Identifier at (past at (code "+" ∷ c ∷ t)) ∷ [])
pair_off n at c t bs e f = record {
  covers = rw (e, le-ltb (past at (code "+" ∷ c ∷ t)) n (omega arith)) (nothing_left at (bytes_of (code "+" ∷ c ∷ t) ++ bs));
  low = rw e (omega arith);
  high = rw e (omega arith);
}

cuts : {at : ℕ} {bs : List ℕ} {rs : List Seen} → Covers at bs rs → (n : ℕ) → n ≡ at + length bs → Cut n at bs rs
cuts {at} ends n h = record { covers = rw (take-nil (n - at)) ends; low = omega arith; high = omega arith }
cuts {at} (blank c {bs} {rs} b m) n h =
    let r : Cut n (at + length (utf8 c)) bs rs = cuts m n (omega (arith, length-append (utf8 c) bs)) in
    record {
      covers = rw (cut_part at (cut_off n rs) (utf8 c) bs r.low) (blank c b r.covers);
      low = omega (arith, r.low);
      high = r.high;
    }
cuts {at} (one k c t {bs} {rs} m) n h =
    let l : n ≡ past at (c ∷ t) + length bs = omega (arith, length-append (bytes_of (c ∷ t)) bs) in
    by_bool (eqb (past at (c ∷ t)) n)
    (λ e. let f : past at (c ∷ t) ≡ n = eqb-true (past at (c ∷ t)) n e in
    rw (no_record m (omega arith)) (one_off n at k c t bs e f))
    (λ e. one_on n at k c t bs rs e (lt-ltb (past at (c ∷ t)) n (less (past at (c ∷ t)) n (length bs) l e)) (cuts m n l))
cuts {at} (pair c t {bs} {rs} m) n h =
    let e₀ : ℕ = past at (code "+" ∷ c ∷ t) in
    let l : n ≡ past at (code "+" ∷ c ∷ t) + length bs = omega (arith, length-append (bytes_of (code "+" ∷ c ∷ t)) bs) in
    by_bool (eqb (past at (code "+" ∷ c ∷ t)) n)
    (λ e. let f : past at (code "+" ∷ c ∷ t) ≡ n = eqb-true (past at (code "+" ∷ c ∷ t)) n e in
    rw (no_record m (omega arith)) (pair_off n at c t bs e f))
    (λ e. pair_on n at c t bs rs e (lt-ltb (past at (code "+" ∷ c ∷ t)) n (less (past at (code "+" ∷ c ∷ t)) n (length bs) l e)) (cuts m n l))

-- ---- the opening line of a part

span_part : (f : ℕ → Bool) (k : ℕ) (l : List ℕ) → span f l ≤ k → span f (take k l) ≡ span f l
unfolding span
span_part f zero [] h = refl
span_part f (suc k) [] h = refl
span_part f zero (c ∷ l) h = by_bool (f c) (λ e. absurd (omega (arith, rw e at h))) (λ e. rw e)
span_part f (suc k) (c ∷ l) h = by_bool (f c) (λ e. rw e (ap suc (span_part f k l (omega (arith, rw e at h))))) (λ e. rw e)

not_begins : (p l : List ℕ) (k : ℕ) → begins p l ≡ false → begins p (take k l) ≡ false
unfolding begins
not_begins [] l k e = e
not_begins (x ∷ p) [] zero e = refl
not_begins (x ∷ p) [] (suc k) e = refl
not_begins (x ∷ p) (y ∷ l) zero e = refl
not_begins (x ∷ p) (y ∷ l) (suc k) e = by_bool (eqb x y) (λ f. rw f (not_begins p l k (rw f at e))) (λ f. rw f)

starts_so : (l : List ℕ) → begins (codes "#!") l ≡ true → (k : List ℕ) × (l ≡ codes "#!" ++ k)
unfolding begins
starts_so [] e = absurd (true≢false (sym e))
starts_so (x ∷ []) e = absurd (true≢false (sym (and_true (eqb (code "#") x) false e).1))
starts_so (x ∷ y ∷ k) e =
    let a = and_true (eqb (code "#") x) (eqb (code "!") y && true) e in
    let b = and_true (eqb (code "!") y) true a.1 in
    (k, rw (← (eqb-true (code "#") x a.0), ← (eqb-true (code "!") y b.0)))

opened_part : (k : List ℕ) (p : ℕ) → opening (codes "#!" ++ k) ≤ p → opening (take p (codes "#!" ++ k)) ≡ opening (codes "#!" ++ k)
unfolding opening begins span
opened_part k zero h = absurd (omega arith)
opened_part k (suc zero) h = absurd (omega arith)
opened_part k (suc (suc p)) h = ap suc (ap suc (span_part (λ c. not (eqb c (code "\n"))) p k (omega arith)))

opening_part : (bytes : List ℕ) (p : ℕ) → opening bytes ≤ p → opening (take p bytes) ≡ opening bytes
unfolding opening
opening_part bytes p h = by_bool (begins (codes "#!") bytes)
    (λ e. let s = starts_so bytes e in rw s.1 (opened_part s.0 p (rw s.1 at h)))
    (λ e. rw (e, not_begins (codes "#!") bytes p e))

-- ---- a text that breaks off

-- n is the length of the text
pub covered_before : (bytes : List ℕ) (rs : List Seen) (n : ℕ) → n ≡ length bytes → Covered bytes rs → Covered (take (cut_off n rs) bytes) (early n rs)
covered_before bytes rs n h m =
    let o : ℕ = opening bytes in
    let r : Cut n (opening bytes) (drop (opening bytes) bytes) rs
    = cuts m n (omega (arith, length-drop (opening bytes) bytes, opening_le bytes)) in
    let d : drop (opening bytes) (take (cut_off n rs) bytes) ≡ take (cut_off n rs - opening bytes) (drop (opening bytes) bytes)
    = cut_before bytes (opening bytes) (cut_off n rs - opening bytes) (cut_off n rs) (omega (arith, r.low)) in
    rw (opening_part bytes (cut_off n rs) r.low, d) r.covers

pub cut_le : (bytes : List ℕ) (rs : List Seen) (n : ℕ) → n ≡ length bytes → Covered bytes rs → cut_off n rs ≤ n
cut_le bytes rs n h m = (cuts m n (omega (arith, length-drop (opening bytes) bytes, opening_le bytes))).high
