-- The characters of a text from a place between two of them on. What stands there is read as from the start: the bytes are those of characters,
-- and every place between these is one between the text's. A bad sequence starts behind the characters before it.
use Rattle.std.proofs.Common.{None, Some}
use Prim.Native.Nat.{ℕ, zero, suc, ◌+◌, ◌-◌, ◌≤◌, ◌<◌}
use mathlib.Core.Path.{◌≡◌, refl, sym, ap, subst, ◌∙◌}
use mathlib.Core.List.{List, [], ◌∷◌, ◌++◌, append_assoc}
use lib.ListN.{length, get_or, take, drop, length-append, length-drop, take-append-drop}
use lib.Seq.{take-add, take_all, drop-append_seam}
use native.Mathlib.Omega.{arith}
use native.Mathlib.Nat.{zero-add}
use Rattle.laws.proofs.Choice.{impossible}
use Rattle.chars.specs.Utf8.{Front, char, bad, cut, none, front, Sequence, onward, sequences, verdict, first_bad, chars}
use Rattle.chars.specs.Encode.{utf8, width, bytes_of}
use Rattle.chars.proofs.Bytes.{bytes_append}
use Rattle.chars.proofs.Sequences.{char_some, not_none, sequences-char, sequences-bad, sequences-cut}
use Rattle.chars.proofs.Spells.{Spells, spells}
use Rattle.chars.proofs.Chars.{chars-char, chars-bad, chars-cut, char-width}
use Rattle.chars.proofs.Good.{Scalars, good_bytes_lem, chars_encoded}
use Rattle.items.proofs.Every.{Every}
use Rattle.items_coverage.proofs.Bytes.{passed}
use Rattle.items_errors.proofs.Rows.{every_scalar}
use Rattle.lines.proofs.Back.{length_bytes}
use Rattle.lines.proofs.Between.{Between}
use Rattle.lines_theorems.proofs.Along.{Along, along, at_end_case}
use Rattle.lines_theorems.proofs.Failing.{IsChar, char_there, byte_there}
use Rattle.findings_theorems.proofs.Places.{OfChar}

-- a place from a to b
abbrev pub BetweenBoth : List ℕ → ℕ → ℕ → Type 0
BetweenBoth s a b = Between s a × Between s b

-- ---- of any text: its start, and where the first bad sequence starts

pub start_between : (s : List ℕ) → Between s 0
unfolding bytes_of
start_between s = (0, refl)

abbrev BadBehind : ℕ → Type 0
BadBehind n = (l : List ℕ) (at b : ℕ) → length l ≤ n → verdict (sequences 0 at l) ≡ Some b → b ≡ at + length (bytes_of (chars l))

bad_next : (n x : ℕ) (l : List ℕ) (at b : ℕ) → BadBehind n → length (x ∷ l) ≤ suc n → verdict (sequences 0 at (x ∷ l)) ≡ Some b
    → b ≡ at + length (bytes_of (chars (x ∷ l)))
unfolding bytes_of
bad_next n x l at b ih h g = go (front (x ∷ l)) refl
  where
    -- nothing is read
    at_once : chars (x ∷ l) ≡ [] → verdict (sequences 0 at (x ∷ l)) ≡ Some at → b ≡ at + length (bytes_of (chars (x ∷ l)))
    at_once e f = let z : Some at ≡ Some b = sym f ∙ g in let y : b ≡ at = cc in rw e (omega arith)

    go : (F : Front) → front (x ∷ l) ≡ F → b ≡ at + length (bytes_of (chars (x ∷ l)))
    go (char c w) f =
        let wide : w ≡ width c = char-width (x ∷ l) c w (subst (Spells (x ∷ l)) f (spells (x ∷ l))) in
        let rest : verdict (sequences 0 (at + w) (drop w (x ∷ l))) ≡ Some b = sym (ap verdict (sequences-char at (x ∷ l) c w f)) ∙ g in
        let on : b ≡ at + w + length (bytes_of (chars (drop w (x ∷ l)))) =
        ih (drop w (x ∷ l)) (at + w) b (omega (arith, length-drop w (x ∷ l), char_some (x ∷ l) c w f)) rest in
        rw (chars-char (x ∷ l) c w f) (omega (arith, on, length_bytes c (chars (drop w (x ∷ l)))))
    go (bad k) f = at_once (chars-bad (x ∷ l) k f) (ap verdict (sequences-bad at (x ∷ l) k f))
    go cut f = at_once (chars-cut (x ∷ l) f) (ap verdict (sequences-cut at (x ∷ l) f))
    go none f = absurd (not_none x l f)

bad_turn : (n : ℕ) → BadBehind n → BadBehind (suc n)
unfolding sequences
bad_turn n ih [] at b h g = impossible cc
bad_turn n ih (x ∷ l) at b h g = bad_next n x l at b ih h g

bad_none : BadBehind zero
unfolding sequences
bad_none [] at b h g = impossible cc
bad_none (x ∷ l) at b h g = absurd (omega arith)

bad_behind : (n : ℕ) → BadBehind n
bad_behind zero = bad_none
bad_behind (suc n) = bad_turn n (bad_behind n)

pub bad_between : (s : List ℕ) (b : ℕ) → first_bad s ≡ Some b → Between s b
unfolding first_bad
bad_between s b g =
    let all : take (length (chars s)) (chars s) ≡ chars s = take_all (length (chars s)) (chars s) (omega arith) in
    (length (chars s), bad_behind (length s) s 0 b (omega arith) g ∙ zero-add _ ∙ ap (λ (l : List ℕ). length (bytes_of l)) (sym all))

-- ---- of a text that is UTF-8

every_drop : (k : ℕ) (cs : List ℕ) → Every IsChar cs → Every IsChar (drop k cs)
every_drop zero cs h = h
every_drop (suc k) [] h = tt
every_drop (suc k) (c ∷ cs) h = every_drop k cs h.1

scalars : (cs : List ℕ) → Every IsChar cs → Scalars cs
scalars [] h = tt
scalars (c ∷ cs) h = (h.0, scalars cs h.1)

module _ (s : List ℕ) (good : first_bad s ≡ None) where
  abbrev B : ℕ → Type 0
  B = Between s

  pub whole : bytes_of (chars s) ≡ s
  whole = good_bytes_lem s good

  pub every_char : Every IsChar (chars s)
  every_char = every_scalar s good

  pub along_all : Along B 0 (chars s)
  along_all = along B 0 (chars s) (λ k. (k, omega arith))

  pub end_between : B (length s)
  end_between = subst B (zero-add _ ∙ ap length whole) (at_end_case B 0 (chars s) along_all)

  -- a byte of ASCII is a character
  pub byte_between : (n : ℕ) → n < length s → get_or s n 0 < 0x80 → B n × B (suc n)
  byte_between = subst (λ (l : List ℕ). (n : ℕ) → n < length l → get_or l n 0 < 0x80 → B n × B (suc n)) whole (byte_there B (chars s) every_char along_all)

  -- ---- from a place on

  pub record From (p : ℕ) (cs : List ℕ) : Type 0 where
    pub along : Along B p cs
    pub stands : drop p s ≡ bytes_of cs
    pub every : Every IsChar cs

  pub from_between : (p : ℕ) → B p → From p (chars (drop p s))
  from_between p (k, e) =
      let front : List ℕ = take k (chars s) in
      let rest : List ℕ = drop k (chars s) in
      let parts : s ≡ bytes_of front ++ bytes_of rest = sym whole ∙ ap bytes_of (sym (take-append-drop k (chars s))) ∙ bytes_append front rest in
      let left : drop p s ≡ bytes_of rest = ap (λ (n : ℕ). drop n s) e ∙ ap (drop (length (bytes_of front))) parts ∙ drop-append_seam (bytes_of front) (bytes_of rest) in
      let every : Every IsChar rest = every_drop k (chars s) every_char in
      let is : rest ≡ chars (drop p s) = sym (ap chars left ∙ chars_encoded rest (scalars rest every)) in
      let there : (j : ℕ) → B (p + length (bytes_of (take j rest))) =
      λ j. let both : bytes_of (take (k + j) (chars s)) ≡ bytes_of front ++ bytes_of (take j rest) = ap bytes_of (take-add k j (chars s)) ∙ bytes_append front (take j rest) in
      (k + j, omega (arith, e, ap length both, length-append (bytes_of front) (bytes_of (take j rest)))) in
      subst (From p) is (record { along = along B p rest there; stands = left; every = every })

  -- ---- the characters of a part

  abbrev R : ℕ → ℕ → Type 0
  R = BetweenBoth s

  char_between : (at : ℕ) (l more : List ℕ) (c n : ℕ) → drop at s ≡ l ++ more → Spells l (char c n) → R at (at + n)
  char_between at l more c n e h =
      let is : l ≡ utf8 c ++ drop n l = sym (take-append-drop n l) ∙ ap (λ (x : List ℕ). x ++ drop n l) h.0 in
      let there : drop at (bytes_of (chars s)) ≡ utf8 c ++ (drop n l ++ more) =
      ap (drop at) whole ∙ e ∙ ap (λ (x : List ℕ). x ++ more) is ∙ append_assoc (utf8 c) (drop n l) more in
      let m = char_there B 0 (chars s) every_char along_all at c (drop n l ++ more) h.1 there in
      let z : 0 + at + width c ≡ at + n = omega (arith, char-width l c n h) in
      (subst B (zero-add at) m.0, subst B z m.1)

  onward_between : (at : ℕ) (l more : List ℕ) (f : Front) (next : ℕ → List Sequence) → drop at s ≡ l ++ more → Spells l f → ((k : ℕ) → Every (OfChar R) (next k))
      → Every (OfChar R) (onward at f next)
  onward_between at l more (char c n) next e h r = (char_between at l more c n e h, r (n - 1))
  onward_between at l more (bad n) next e h r = (tt, tt)
  onward_between at l more cut next e h r = (tt, tt)
  onward_between at l more none next e h r = tt

  -- each that is read starts and ends between two of the text's
  pub sequences_between : (l more : List ℕ) (k at : ℕ) → drop at s ≡ l ++ more → Every (OfChar R) (sequences k at l)
  unfolding sequences
  sequences_between [] more k at e = tt
  sequences_between (b ∷ l) more (suc k) at e = sequences_between l more k (at + 1) (passed s at (b ∷ []) (l ++ more) e)
  sequences_between (b ∷ l) more zero at e =
      onward_between at (b ∷ l) more (front (b ∷ l)) (λ k. sequences k (at + 1) l) e (spells (b ∷ l))
      (λ k. sequences_between l more k (at + 1) (passed s at (b ∷ []) (l ++ more) e))
