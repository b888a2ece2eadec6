-- The rule of the table of names: its nine rows are the definition's names, padded, and each name is its row up to the padding. Each
-- statement is one equation over the whole table that computes; `at` turns it into the fact at a row.
use Prim.Native.Nat.{ℕ, zero, suc, ◌+◌, ◌≤◌, ◌<◌}
use mathlib.Core.Path.{◌≡◌, refl, sym, ap, ◌∙◌}
use mathlib.Core.Bool.{true, false}
use mathlib.Core.List.{List, [], ◌∷◌, map}
use native.Mathlib.Nat.{le_of_suc-le-suc, not-suc-le-zero}
use native.Mathlib.Numerals.{add-one}
use native.Mathlib.Omega.{arith}
use lib.ListN.{length, get_or, take, drop, get_or-map, drop_of_length-le}
use lib.Seq.{drop-cons}
use borrow.Author.Tests.{ne_eqb}
use Rattle.laws.specs.Quoted.{codes}
use Rattle.laws.specs.Texts.{span, before, same}
use Rattle.chars.specs.Encode.{bytes_of, utf8}
use Rattle.items.specs.Meaning.{Row, lookup, char_names, unnamed, lower}
use Rattle.spellings.specs.Names.{no_row, name_of, code_of, padded}

-- below the length the default is not read
get_d_any : {A : Type 0} (l : List A) (k : ℕ) (d e : A) → k < length l → get_or l k d ≡ get_or l k e
get_d_any [] k d e h = absurd (not-suc-le-zero h)
get_d_any (x ∷ l) zero d e h = refl
get_d_any (x ∷ l) (suc k) d e h = get_d_any l k d e (le_of_suc-le-suc h)

-- what a table of nine has at a row, if the whole is made of the names
at : {A : Type 0} (f : Row → A) (l : List A) (d : A) → l ≡ map f char_names → (k : ℕ) → k < length l → get_or l k d ≡ f (get_or char_names k no_row)
at f l d e k h = get_d_any l k d (f no_row) h ∙ ap (λ m. get_or m k (f no_row)) e ∙ get_or-map f char_names k no_row

abbrev pub rows : List (List ℕ)
rows =
    codes "alarm\0\0\0\0"
    ∷ codes "backspace"
    ∷ codes "delete\0\0\0"
    ∷ codes "escape\0\0\0"
    ∷ codes "newline\0\0"
    ∷ codes "null\0\0\0\0\0"
    ∷ codes "return\0\0\0"
    ∷ codes "space\0\0\0\0"
    ∷ codes "tab\0\0\0\0\0\0"
    ∷ []

abbrev pub row_codes : List ℕ
row_codes = 0x07 ∷ 0x08 ∷ 0x7F ∷ 0x1B ∷ 0x0A ∷ 0x00 ∷ 0x0D ∷ 0x20 ∷ 0x09 ∷ []

rows_rule : rows ≡ map (λ (r : Row). padded r.text) char_names
unfolding char_names bytes_of utf8
rows_rule = refl

codes_rule : row_codes ≡ map (λ (r : Row). r.number) char_names
unfolding char_names
codes_rule = refl

pub row_at : (k : ℕ) → k < 9 → get_or rows k [] ≡ padded (name_of k)
row_at k h = at (λ (r : Row). padded r.text) rows [] rows_rule k h

pub code_at : (k : ℕ) → k < 9 → get_or row_codes k 0 ≡ code_of k
code_at k h = at (λ (r : Row). r.number) row_codes 0 codes_rule k h

-- a row up to its padding
abbrev own : List ℕ → List ℕ
own row = take (before 0 row) row

names_rule : map (λ (r : Row). own (padded r.text)) char_names ≡ map (λ (r : Row). r.text) char_names
unfolding char_names bytes_of utf8 span
names_rule = refl

nine : (k : ℕ) → k < 9 → k < length char_names
unfolding char_names
nine k h = h

-- cut at its padding, a row is the name
pub own_name : (k n : ℕ) (row : List ℕ) → row ≡ padded (name_of k) → n ≡ 0 + before 0 (drop 0 row) → take n row ≡ name_of k
unfolding span
own_name k n row e f =
    let g : n ≡ before 0 row = omega arith in
    rw (g, e) (
    sym (get_or-map (λ (r : Row). own (padded r.text)) char_names k no_row)
    ∙ ap (λ (l : List (List ℕ)). get_or l k (own (padded []))) names_rule
    ∙ get_or-map (λ (r : Row). r.text) char_names k no_row)

-- a text whose first letter is not the row's is not the name
pub first_differs : (t name : List ℕ) → 0 < length t → (lower (get_or t 0 0) ≡ get_or (padded name) 0 0 → ⊥) → same (map lower t) name ≡ false
unfolding same
first_differs [] name h d = absurd (omega arith)
first_differs (x ∷ t) [] h d = refl
first_differs (x ∷ t) (c ∷ name) h d = rw (ne_eqb (lower x) c d)

-- ---- the search from row k on

module _ (t : List ℕ) (k : ℕ) where
  pub named_here : k < 9 → same t (name_of k) ≡ true → lookup (drop k char_names) t unnamed ≡ code_of k
  unfolding lookup
  named_here h e = rw (drop-cons char_names k no_row (nine k h)) (rw e)

  pub named_later : k < 9 → same t (name_of k) ≡ false → lookup (drop k char_names) t unnamed ≡ lookup (drop (k + 1) char_names) t unnamed
  unfolding lookup
  named_later h e = rw (drop-cons char_names k no_row (nine k h)) (rw e (rw (add-one k)))

  pub named_never : 9 ≤ k → lookup (drop k char_names) t unnamed ≡ unnamed
  unfolding lookup char_names
  named_never h = rw (drop_of_length-le char_names h)
