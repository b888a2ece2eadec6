-- The words of rows that lie one after the other: row p starts at its number times ten.
use Prim.Native.Nat.{ℕ, zero, suc, ◌+◌, ◌*◌, ◌<◌}
use mathlib.Core.Path.{◌≡◌, refl, ap, ◌∙◌}
use mathlib.Core.Bool.{true}
use mathlib.Core.List.{List, [], ◌∷◌, ◌++◌}
use lib.ListN.{length, get_or, length-append, get_or-append}
use lib.Seq.{get_or-append-add}
use lib.Dec.{leb}
use native.Mathlib.Omega.{arith}
use borrow.Author.Tests.{lt-leb}
use Rattle.items.specs.Kinds as kind
use Rattle.items.specs.Items.{Item, depth_after, memory_of, record_words, record_of, records}
use Rattle.items.proofs.Every.{Every}
use Rattle.findings_rows.specs.Laid.{flat}
use Rattle.findings_rows.specs.Rows.{row_of, error_row, fine_row, rows_from}
use Rattle.findings_rows.proofs.Lays.{row_length}

-- a word of row p, and the row
abbrev pub word_of : List ℕ → ℕ → ℕ → ℕ
word_of words p k = get_or words (p * record_words + k) 0

abbrev pub row_at : List (List ℕ) → ℕ → List ℕ
row_at rows p = get_or rows p []

abbrev pub Ten : List ℕ → Type 0
Ten row = length row ≡ record_words

pub word_at : (rows : List (List ℕ)) → Every Ten rows → (p k : ℕ) → p < length rows → k < record_words → word_of (flat rows) p k ≡ get_or (row_at rows p) k 0
unfolding flat
word_at [] ten p k h l = absurd (omega arith)
word_at (row ∷ rows) ten zero k h l =
    let place : 0 * record_words + k ≡ k = omega arith in
    ap (λ (n : ℕ). get_or (row ++ flat rows) n 0) place ∙ get_or-append row (flat rows) 0 k (omega (arith, ten.0))
word_at (row ∷ rows) ten (suc p) k h l =
    let place : suc p * record_words + k ≡ length row + (p * record_words + k) = omega (arith, ten.0) in
    ap (λ (n : ℕ). get_or (row ++ flat rows) n 0) place
    ∙ get_or-append-add row (flat rows) (p * record_words + k) 0
    ∙ word_at rows ten.1 p k (omega arith) l

pub flat-length : (rows : List (List ℕ)) → Every Ten rows → length (flat rows) ≡ record_words * length rows
unfolding flat
flat-length [] ten = refl
flat-length (row ∷ rows) ten = omega (arith, length-append row (flat rows), ten.0, flat-length rows ten.1)

-- ---- the rows of items

pub rows_ten : (d : ℕ) (is : List Item) → Every Ten (rows_from d is)
unfolding rows_from
rows_ten d [] = tt
rows_ten d (i ∷ is) = (row_length d i, rows_ten (depth_after i.kind d) is)

-- row p is that of an item, of which holds what holds of every item
pub record Stands (is : List Item) (row : List ℕ) : Type 1 where
  pub item : Item
  pub depth : ℕ
  pub among : (P : Item → Type 0) → Every P is → P item
  pub words : row ≡ row_of depth item

pub stands : (d : ℕ) (is : List Item) (p : ℕ) → p < length is → Stands is (row_at (rows_from d is) p)
unfolding rows_from
stands d [] p h = absurd (omega arith)
stands d (i ∷ is) zero h = record { item = i; depth = d; among = λ P e. e.0; words = refl }
stands d (i ∷ is) (suc p) h =
    let s : Stands is (row_at (rows_from (depth_after i.kind d) is) p) = stands (depth_after i.kind d) is p (omega arith) in
    record { item = s.item; depth = s.depth; among = λ P e. s.among P e.1; words = s.words }

-- what the words of a row say of its item, said of every row, holds of every item
pub every_row : (R : Item → Type 0) (P : List ℕ → Type 0) (Q : Item → Type 0) → ((d : ℕ) (i : Item) → R i → P (row_of d i) → Q i) → (d : ℕ) (is : List Item)
    → Every R is → ((p : ℕ) → p < length is → P (row_at (rows_from d is) p)) → Every Q is
unfolding rows_from
every_row R P Q f d [] r h = tt
every_row R P Q f d (i ∷ is) r h =
    (f d i r.0 (h 0 (omega arith)), every_row R P Q f (depth_after i.kind d) is r.1 (λ p l. h (suc p) (omega arith)))

pub row_fine : (d : ℕ) (i : Item) → i.kind < kind.first_error → row_of d i ≡ fine_row d i
row_fine d i h = rw (lt-leb kind.first_error i.kind h)

pub row_wrong : (d : ℕ) (i : Item) → leb kind.first_error i.kind ≡ true → row_of d i ≡ error_row d i
row_wrong d i h = rw h

-- ---- records are rows too

unfoldable pub record_rows : ℕ → ℕ → List Item → List (List ℕ)
record_rows free d [] = []
record_rows free d (i ∷ is) = record_of free d i ∷ record_rows (free + length (memory_of i.text)) (depth_after i.kind d) is

pub records-flat : (free d : ℕ) (is : List Item) → flat (record_rows free d is) ≡ records free d is
unfolding record_rows flat records
records-flat free d [] = refl
records-flat free d (i ∷ is) = ap (λ (l : List ℕ). record_of free d i ++ l) (records-flat (free + length (memory_of i.text)) (depth_after i.kind d) is)
