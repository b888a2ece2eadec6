-- Good UTF-8 and lists of characters are one thing: a good text is the bytes of its characters, and the bytes of characters are a good
-- text that has just them. So what holds of characters carries over to bytes.
use Rattle.std.proofs.Common.{None, Some}
use Prim.Native.Nat.{ℕ, zero, suc, ◌+◌, ◌≤◌}
use native.Mathlib.Omega.{arith}
use mathlib.Core.Path.{◌≡◌, refl, sym, ap, subst, ◌∙◌}
use mathlib.Core.List.{List, [], ◌∷◌}
use mathlib.Core.Bool.{true}
use lib.ListN.{length, drop, length-drop, take-append-drop}
use lib.Seq.{drop_at}
use Rattle.laws.proofs.Choice.{impossible}
use Rattle.chars.specs.Utf8.{Front, char, bad, cut, none, front, sequences, verdict, first_bad, chars}
use Rattle.chars.specs.Encode.{is_scalar, utf8, width, bytes_of}
use Rattle.chars.proofs.Sequences.{char_some, not_none, sequences-char, sequences-bad, sequences-cut}
use Rattle.chars.proofs.Chars.{chars-char}
use Rattle.chars.proofs.Round.{back}
use Rattle.chars.proofs.Spells.{Spells, spells}
use Rattle.chars.proofs.Width.{width-utf8}

-- every number of a list is a character's
abbrev pub Scalars : List ℕ → Type 0
Scalars [] = Unit {0}
Scalars (c ∷ cs) = (is_scalar c ≡ true) × Scalars cs

-- what a good text is
abbrev GoodText : List ℕ → Type 0
GoodText l = (bytes_of (chars l) ≡ l) × Scalars (chars l)

empty_good : GoodText []
unfolding bytes_of chars sequences
empty_good = (refl, tt)

-- one character, and the rest
cons_good : (l : List ℕ) (c n : ℕ) → front l ≡ char c n → Spells l (char c n) → GoodText (drop n l) → GoodText l
unfolding bytes_of
cons_good l c n e w g = rw (chars-char l c n e) ((rw (g.0, ← w.0) (take-append-drop n l)), (w.1, g.1))

-- by the count of the bytes that are left
on : (n : ℕ) (l : List ℕ) (at : ℕ) → length l ≤ n → verdict (sequences 0 at l) ≡ None → GoodText l
on zero [] at h g = empty_good
on zero (b ∷ l) at h g = absurd (omega arith)
on (suc n) l at h g = turn l (λ m k a v. on n m k a v) h g
  where
    turn : (l : List ℕ) → ((m : List ℕ) (k : ℕ) → length m ≤ n → verdict (sequences 0 k m) ≡ None → GoodText m)
        → length l ≤ suc n → verdict (sequences 0 at l) ≡ None → GoodText l
    turn [] rec h g = empty_good
    turn (b ∷ l) rec h g = go (front (b ∷ l)) refl
      where
        go : (F : Front) → front (b ∷ l) ≡ F → GoodText (b ∷ l)
        go (char c m) f =
            let w : Spells (b ∷ l) (char c m) = subst (Spells (b ∷ l)) f (spells (b ∷ l)) in
            cons_good (b ∷ l) c m f w
            (rec (drop m (b ∷ l)) (at + m) (omega (arith, length-drop m (b ∷ l), char_some (b ∷ l) c m f)) (sym (ap verdict (sequences-char at (b ∷ l) c m f)) ∙ g))
        go (bad m) f =
            let z : Some at ≡ None = sym (ap verdict (sequences-bad at (b ∷ l) m f)) ∙ g in
            impossible cc
        go cut f =
            let z : Some at ≡ None = sym (ap verdict (sequences-cut at (b ∷ l) f)) ∙ g in
            impossible cc
        go none f = absurd (not_none b l f)

-- A text that `first_bad` calls good is the bytes of its characters.
pub good_bytes_lem : (s : List ℕ) → first_bad s ≡ None → bytes_of (chars s) ≡ s
unfolding first_bad
good_bytes_lem s g = (on (length s) s 0 (omega arith) g).0

pub good_scalars : (s : List ℕ) → first_bad s ≡ None → Scalars (chars s)
unfolding first_bad
good_scalars s g = (on (length s) s 0 (omega arith) g).1

-- ---- the other way

module _ (c : ℕ) (cs : List ℕ) (e : is_scalar c ≡ true) where
  encoded_front : front (bytes_of (c ∷ cs)) ≡ char c (width c)
  unfolding bytes_of
  encoded_front = back c (bytes_of cs) e

  pub encoded_rest : drop (width c) (bytes_of (c ∷ cs)) ≡ bytes_of cs
  unfolding bytes_of
  encoded_rest = drop_at (utf8 c) (bytes_of cs) (width c) (width-utf8 c)

encoded_on : (cs : List ℕ) (at : ℕ) → Scalars cs → verdict (sequences 0 at (bytes_of cs)) ≡ None
unfolding sequences bytes_of
encoded_on [] at h = refl
encoded_on (c ∷ cs) at h =
    ap verdict (sequences-char at (bytes_of (c ∷ cs)) c (width c) (encoded_front c cs h.0))
    ∙ ap (λ (l : List ℕ). verdict (sequences 0 (at + width c) l)) (encoded_rest c cs h.0)
    ∙ encoded_on cs (at + width c) h.1

-- The bytes of characters are good UTF-8, and have just these characters.
pub encoded_good : (cs : List ℕ) → Scalars cs → first_bad (bytes_of cs) ≡ None
unfolding first_bad
encoded_good cs h = encoded_on cs 0 h

pub chars_encoded : (cs : List ℕ) → Scalars cs → chars (bytes_of cs) ≡ cs
unfolding chars sequences bytes_of
chars_encoded [] h = refl
chars_encoded (c ∷ cs) h =
    chars-char (bytes_of (c ∷ cs)) c (width c) (encoded_front c cs h.0)
    ∙ ap (λ (l : List ℕ). c ∷ chars l) (encoded_rest c cs h.0)
    ∙ ap (λ (l : List ℕ). c ∷ l) (chars_encoded cs h.1)
