-- The line and the column that were found go back to the place: it is the line's start and the bytes of the characters before the column.
use mathlib.Core.Path.{◌≡◌, refl, sym, ap, subst, ◌∙◌}
use mathlib.Core.Bool.{Bool}
use mathlib.Core.List.{List, [], ◌∷◌}
use mathlib.Core.Logic.{◌⊎◌, inl, inr}
use Prim.Native.Nat.{ℕ, zero, suc, ◌+◌, ◌-◌, ◌≤◌, ◌<◌}
use native.Mathlib.Omega.{arith}
use lib.ListN.{length, get_or, drop, take, length-drop, length-append}
use lib.Dec.{ltb}
use borrow.Author.Tests.{le-leb, lt-leb, lt-ltb, le-ltb}
use Rattle.std.specs.Prelude.{if◌then◌else◌, None, Option, Some}
use Rattle.laws.proofs.Choice.{by_bool, impossible}
use Rattle.chars.specs.Utf8.{Front, char, bad, cut, none, front, sequences, chars}
use Rattle.chars.specs.Encode.{utf8, width, bytes_of}
use Rattle.chars.proofs.Sequences.{char_some, not_none, sequences-char, sequences-bad, sequences-cut}
use Rattle.chars.proofs.Spells.{Spells, spells}
use Rattle.chars.proofs.Chars.{chars-char, char-width}
use Rattle.chars.proofs.Width.{width-utf8}
use Rattle.lines.specs.Starts.{starts_from, starts}
use Rattle.lines.specs.Place.{is_index, line_of, column, answered, line_start, place_of, locate_of}
use Rattle.lines.specs.Place.{At}
use Rattle.lines.proofs.Tests.{by_less}
use Rattle.lines.proofs.Columns.{column_done}
use Rattle.lines.proofs.Bounds.{since_line}
use Rattle.lines.proofs.Index.{index_is}

pub length_bytes : (c : ℕ) (cs : List ℕ) → length (bytes_of (c ∷ cs)) ≡ width c + length (bytes_of cs)
unfolding bytes_of
length_bytes c cs = length-append (utf8 c) (bytes_of cs) ∙ ap (λ (n : ℕ). n + length (bytes_of cs)) (width-utf8 c)

-- ---- the characters passed

-- from place `at` on, with m counted, the column r of place p was come to by passing k characters
abbrev Passed : List ℕ → ℕ → ℕ → ℕ → ℕ → Type 0
Passed l p at m r = (k : ℕ) × (r ≡ m + k) × (p ≡ at + length (bytes_of (take k (chars l))))

abbrev Passing : ℕ → Type 0
Passing n = (l : List ℕ) (p at m r : ℕ) → length l ≤ n → at ≤ p → p ≤ at + length l → column p m (sequences 0 at l) ≡ Some r → Passed l p at m r

here : (l : List ℕ) (p at m r : ℕ) → at ≤ p → p ≤ at → column p m (sequences 0 at l) ≡ Some r → Passed l p at m r
unfolding bytes_of
here l p at m r h k e =
    let f : Some m ≡ Some r = sym (column_done p m at l k) ∙ e in
    let z : m ≡ r = cc in
    (0, omega arith, omega arith)

-- a character that ends at the place or before it is passed
one_more : (l : List ℕ) (p at m r c w : ℕ) → front l ≡ char c w → Passed (drop w l) p (at + w) (m + 1) r → Passed l p at m r
one_more l p at m r c w f v =
    let wide : w ≡ width c = char-width l c w (subst (Spells l) f (spells l)) in
    let first : length (bytes_of (take (suc v.0) (chars l))) ≡ w + length (bytes_of (take v.0 (chars (drop w l)))) =
    ap (λ (x : List ℕ). length (bytes_of (take (suc v.0) x))) (chars-char l c w f)
    ∙ length_bytes c (take v.0 (chars (drop w l)))
    ∙ ap (λ (n : ℕ). n + length (bytes_of (take v.0 (chars (drop w l))))) (sym wide) in
    (suc v.0, omega (arith, v.1), omega (arith, v.2, first))

past : (n b : ℕ) (l : List ℕ) (p at m r : ℕ) → Passing n → length (b ∷ l) ≤ suc n → at < p → p ≤ at + length (b ∷ l)
    → column p m (sequences 0 at (b ∷ l)) ≡ Some r → Passed (b ∷ l) p at m r
unfolding column
past n b l p at m r ih h a q e = go (front (b ∷ l)) refl
  where
    go : (F : Front) → front (b ∷ l) ≡ F → Passed (b ∷ l) p at m r
    go (char c w) f =
        let shape : column p m (sequences 0 at (b ∷ l)) ≡ (if ltb p (at + w) then None else column p (m + 1) (sequences 0 (at + w) (drop w (b ∷ l)))) =
        rw (sequences-char at (b ∷ l) c w f, lt-leb p at a) in
        let some : 1 ≤ w = char_some (b ∷ l) c w f in
        let fits : w ≤ length (b ∷ l) = (subst (Spells (b ∷ l)) f (spells (b ∷ l))).2 in
        by_less p (at + w)
        (λ k. let x : None ≡ Some r = sym (shape ∙ rw (lt-ltb p (at + w) k)) ∙ e in impossible cc)
        (λ k.
        let x : column p (m + 1) (sequences 0 (at + w) (drop w (b ∷ l))) ≡ Some r = sym (shape ∙ rw (le-ltb p (at + w) k)) ∙ e in
        one_more (b ∷ l) p at m r c w f
        (ih (drop w (b ∷ l)) p (at + w) (m + 1) r (omega (arith, length-drop w (b ∷ l))) k (omega (arith, length-drop w (b ∷ l))) x))
    go (bad k) f =
        let x : None ≡ Some r = sym (rw (sequences-bad at (b ∷ l) k f, lt-leb p at a)) ∙ e in
        impossible cc
    go cut f =
        let x : None ≡ Some r = sym (rw (sequences-cut at (b ∷ l) f, lt-leb p at a)) ∙ e in
        impossible cc
    go none f = absurd (not_none b l f)

turn : (n : ℕ) → Passing n → Passing (suc n)
turn n ih [] p at m r h a q e = here [] p at m r a (omega arith) e
turn n ih (b ∷ l) p at m r h a q e = by_less at p (λ k. past n b l p at m r ih h k q e) (λ k. here (b ∷ l) p at m r a k e)

none_left : Passing zero
none_left [] p at m r h a q e = here [] p at m r a (omega arith) e
none_left (b ∷ l) p at m r h a q e = absurd (omega arith)

passing : (n : ℕ) → Passing n
passing zero = none_left
passing (suc n) = turn n (passing n)

-- ---- the line found starts at the place or before it

abbrev Last : List ℕ → ℕ → ℕ → ℕ → Type 0
Last l p j r = (k : ℕ) × (r ≡ j + k) × (k < length l) × (get_or l k 0 ≤ p)

later : (x : ℕ) (l : List ℕ) (p j r : ℕ) → Last l p (j + 1) r → Last (x ∷ l) p j r
later x l p j r v = (suc v.0, omega (arith, v.1), omega (arith, v.2), v.3)

last : (l : List ℕ) (p j found : ℕ) → (line_of p l j found ≡ found) ⊎ Last l p j (line_of p l j found)
unfolding line_of
last [] p j found = inl refl
last (x ∷ l) p j found =
    by_less p x
    (λ h. rw (lt-leb x p h) (no (last l p (j + 1) found)))
    (λ h. rw (le-leb x p h) (inr (yes h (last l p (j + 1) j))))
  where
    no : {r : ℕ} → (r ≡ found) ⊎ Last l p (j + 1) r → (r ≡ found) ⊎ Last (x ∷ l) p j r
    no (inl e) = inl e
    no {r} (inr v) = inr (later x l p j r v)

    yes : {r : ℕ} → x ≤ p → (r ≡ j) ⊎ Last l p (j + 1) r → Last (x ∷ l) p j r
    yes h (inl e) = (0, omega arith, omega arith, h)
    yes {r} h (inr v) = later x l p j r v

pub line_last : (s : List ℕ) (p : ℕ) → (k : ℕ) × (line_of p (starts s) 1 0 ≡ k + 1) × (k < length (starts s)) × (get_or (starts s) k 0 ≤ p)
unfolding line_of
line_last s p =
    let first : line_of p (starts s) 1 0 ≡ line_of p (starts_from 0 s) (1 + 1) 1 =
    ap (λ (t : Bool). line_of p (starts_from 0 s) (1 + 1) (if t then 1 else 0)) (le-leb 0 p (let q : 0 ≤ p = omega arith in q)) in
    let v = go (last (starts_from 0 s) p (1 + 1) 1) in
    (v.0, first ∙ v.1, v.2, v.3)
  where
    go : {r : ℕ} → (r ≡ 1) ⊎ Last (starts_from 0 s) p (1 + 1) r → (k : ℕ) × (r ≡ k + 1) × (k < length (starts s)) × (get_or (starts s) k 0 ≤ p)
    go (inl e) = (0, omega arith, omega arith, omega arith)
    go (inr v) = (suc v.0, omega (arith, v.1), omega (arith, v.2), v.3)

-- ---- back

abbrev Back : List ℕ → List ℕ → ℕ → ℕ → ℕ → Type 0
Back s index p line col = (1 ≤ col) × (p ≡ line_start index line + length (bytes_of (take (col - 1) (chars (drop (line_start index line) s)))))

module _ (s : List ℕ) (p line col : ℕ) where
  by_column : (k : ℕ) (o : Option ℕ) → k < length (starts s) → get_or (starts s) k 0 ≤ p → p ≤ length s
      → column p 1 (sequences 0 (get_or (starts s) k 0) (drop (get_or (starts s) k 0) s)) ≡ o → answered p (k + 1) o ≡ At line col → Back s (starts s) p line col
  by_column k (Some n) a b c e q =
      let x : k + 1 ≡ line = cc in
      let y : n ≡ col = cc in
      let from = get_or (starts s) k 0 in
      let v = passing (length (drop from s)) (drop from s) p from 1 n (omega arith) b (omega (arith, length-drop from s)) e in
      let w : line - 1 ≡ k = omega arith in
      let u : col - 1 ≡ v.0 = omega (arith, v.1) in
      (omega (arith, v.1), rw (w, u) v.2)
  by_column k None a b c e q = impossible cc

pub back : (s index : List ℕ) (p line col : ℕ) → locate_of s index p ≡ At line col
    → (1 ≤ col) × (p ≡ line_start index line + length (bytes_of (take (col - 1) (chars (drop (line_start index line) s)))))
unfolding locate_of place_of
back s index p line col =
    by_bool (is_index s index)
    (λ i. let x = index_is s index i in rw i (rw x.2 (by_less (length s) p
    (λ h. rw (lt-ltb (length s) p h) (λ e. impossible cc))
    (λ h.
    let v = line_last s p in
    let d : v.0 + 1 - 1 ≡ v.0 = omega arith in
    rw (le-ltb (length s) p h, v.1, d, since_line s v.0 x.1 v.2)
    (by_column s p line col v.0 (column p 1 (sequences 0 (get_or (starts s) v.0 0) (drop (get_or (starts s) v.0 0) s))) v.2 v.3 h refl)))))
    (λ i. rw i (λ e. impossible cc))
