-- A place between two characters of a text is answered: it lies inside no character (`Clear`), so the count of characters comes to it.
use Rattle.std.proofs.Common.{Some, None}
use mathlib.Core.Path.{◌≡◌, refl, sym, ap, subst, ◌∙◌}
use mathlib.Core.Bool.{true}
use mathlib.Core.List.{List, [], ◌∷◌}
use mathlib.Core.Logic.{◌⊎◌, inl, inr}
use Prim.Native.Nat.{ℕ, zero, suc, ◌+◌, ◌≤◌}
use native.Mathlib.Omega.{arith}
use lib.ListN.{length, drop, take, length-drop}
use lib.Dec.{leb, ltb}
use borrow.Author.Tests.{le-leb, le-ltb}
use Rattle.laws.proofs.Choice.{by_bool, impossible}
use Rattle.chars.specs.Utf8.{Front, char, bad, cut, none, front, Sequence, read, sequences, verdict, first_bad, chars}
use Rattle.chars.specs.Encode.{width, bytes_of}
use Rattle.chars.proofs.Sequences.{char_some, not_none, sequences-char, sequences-bad, sequences-cut}
use Rattle.chars.proofs.Spells.{Spells, spells}
use Rattle.chars.proofs.Chars.{chars-char, char-width}
use Rattle.chars.proofs.Good.{good_bytes_lem}
use Rattle.lines.specs.Place.{is_index, line_of, column, since, line_start, place_of, locate_of}
use Rattle.lines.specs.Place.{At}
use Rattle.lines.proofs.Index.{index_is}
use Rattle.lines.proofs.Back.{length_bytes}

-- p is the place after the first characters of a text, as many as it may be
abbrev pub Between : List ℕ → ℕ → Type 0
Between s p = (k : ℕ) × (p ≡ length (bytes_of (take k (chars s))))

-- characters none of which p lies inside
data Clear (p : ℕ) : List Sequence → Type 0 where
  none_left : Clear p []
  beside : {c f t : ℕ} {l : List Sequence} → (p ≤ f) ⊎ (t ≤ p) → Clear p l → Clear p (read c f t ∷ l)

-- ---- a place between characters

-- p is `at` or before it, or past some characters from there on
abbrev Off : List ℕ → ℕ → ℕ → Type 0
Off l at p = (p ≤ at) ⊎ ((k : ℕ) × (p ≡ at + length (bytes_of (take k (chars l)))))

off_next : (l : List ℕ) (at p c w : ℕ) → front l ≡ char c w → Off l at p → ((p ≤ at) ⊎ (at + w ≤ p)) × Off (drop w l) (at + w) p
unfolding bytes_of
off_next l at p c w f (inl h) = (inl h, inl (omega arith))
off_next l at p c w f (inr (zero, e)) = let h : p ≤ at = omega (arith, e) in (inl h, inl (omega arith))
off_next l at p c w f (inr (suc k, e)) =
    let wide : w ≡ width c = char-width l c w (subst (Spells l) f (spells l)) in
    let first : length (bytes_of (take (suc k) (chars l))) ≡ w + length (bytes_of (take k (chars (drop w l)))) =
    ap (λ (x : List ℕ). length (bytes_of (take (suc k) x))) (chars-char l c w f)
    ∙ length_bytes c (take k (chars (drop w l)))
    ∙ ap (λ (n : ℕ). n + length (bytes_of (take k (chars (drop w l))))) (sym wide) in
    (inr (omega (arith, e, first)), inr (k, omega (arith, e, first)))

abbrev Clearing : ℕ → Type 0
Clearing n = (l : List ℕ) (at p : ℕ) → length l ≤ n → verdict (sequences 0 at l) ≡ None → Off l at p → Clear p (sequences 0 at l)

clear_next : (n b : ℕ) (l : List ℕ) (at p : ℕ) → Clearing n → length (b ∷ l) ≤ suc n → verdict (sequences 0 at (b ∷ l)) ≡ None → Off (b ∷ l) at p
    → Clear p (sequences 0 at (b ∷ l))
clear_next n b l at p ih h g o = go (front (b ∷ l)) refl
  where
    go : (F : Front) → front (b ∷ l) ≡ F → Clear p (sequences 0 at (b ∷ l))
    go (char c w) f =
        let v = off_next (b ∷ l) at p c w f o in
        let rest : verdict (sequences 0 (at + w) (drop w (b ∷ l))) ≡ None = sym (ap verdict (sequences-char at (b ∷ l) c w f)) ∙ g in
        let some : 1 ≤ w = char_some (b ∷ l) c w f in
        rw (sequences-char at (b ∷ l) c w f) (beside v.0 (ih (drop w (b ∷ l)) (at + w) p (omega (arith, length-drop w (b ∷ l))) rest v.1))
    go (bad k) f =
        let z : Some at ≡ None = sym (ap verdict (sequences-bad at (b ∷ l) k f)) ∙ g in
        impossible cc
    go cut f =
        let z : Some at ≡ None = sym (ap verdict (sequences-cut at (b ∷ l) f)) ∙ g in
        impossible cc
    go none f = absurd (not_none b l f)

turn : (n : ℕ) → Clearing n → Clearing (suc n)
unfolding sequences
turn n ih [] at p h g o = none_left
turn n ih (b ∷ l) at p h g o = clear_next n b l at p ih h g o

empty : Clearing zero
unfolding sequences
empty [] at p h g o = none_left
empty (b ∷ l) at p h g o = absurd (omega arith)

clearing : (n : ℕ) → Clearing n
clearing zero = empty
clearing (suc n) = turn n (clearing n)

-- ---- its column

clear_since : (a p : ℕ) (l : List Sequence) → Clear p l → Clear p (since a l)
unfolding since
clear_since a p [] none_left = none_left
clear_since a p (x ∷ l) (beside {c = c} {f = f} {t = t} h r) =
    by_bool (ltb f a) (λ e. rw e (clear_since a p l r)) (λ e. rw e (beside h r))

clear_column : (p n : ℕ) (l : List Sequence) → Clear p l → (m : ℕ) × (column p n l ≡ Some m)
unfolding column
clear_column p n [] none_left = (n, refl)
clear_column p n (x ∷ l) (beside {f = f} {t = t} (inl h) r) = (n, rw (le-leb p f h))
clear_column p n (x ∷ l) (beside {f = f} {t = t} (inr h) r) =
    by_bool (leb p f) (λ e. rw e (n, refl)) (λ e. rw (e, le-ltb p t h) (clear_column p (n + 1) l r))

-- ---- the question

few : (k : ℕ) (cs : List ℕ) → length (bytes_of (take k cs)) ≤ length (bytes_of cs)
unfolding bytes_of
few zero cs = omega arith
few (suc k) [] = omega arith
few (suc k) (c ∷ cs) = omega (arith, few k cs, length_bytes c (take k cs), length_bytes c cs)

between_inside : (s : List ℕ) (p : ℕ) → first_bad s ≡ None → Between s p → p ≤ length s
between_inside s p g v = omega (arith, v.1, few v.0 (chars s), ap length (good_bytes_lem s g))

pub answered_between : (s index : List ℕ) (p : ℕ) → is_index s index ≡ true → Between s p → (line : ℕ) × (col : ℕ) × (locate_of s index p ≡ At line col)
unfolding locate_of place_of first_bad
answered_between s index p i v =
    let x = index_is s index i in
    let line = line_of p index 1 0 in
    let l = clearing (length s) s 0 p (omega arith) x.1 (inr (v.0, v.1 ∙ omega arith)) in
    let m = clear_column p 1 (since (line_start index line) (sequences 0 0 s)) (clear_since (line_start index line) p (sequences 0 0 s) l) in
    (line, m.0, rw (i, le-ltb (length s) p (between_inside s p x.1 v), m.1))
