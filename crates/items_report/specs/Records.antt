-- The records that the whole-text call writes in report mode and in plain mode, side by side, as they lie in memory: word for word the same
-- but for the places, and for 13 and 10, up to the first number, or error 8, that ends before `;`, `"` or `|`.
use Rattle.std.specs.Prelude.{ℕ, ◌+◌, ◌≡◌, ◌⊎◌, true, List, [], ◌∷◌, get_or}
use Rattle.laws.specs.Quoted.{codes, one_of}
use Rattle.items.specs.Kinds as kind
use Rattle.items_coverage.specs.Records.{row_kind, word, end_word}
use Rattle.items_errors.specs.Delimited.{Undelimited, name_of, IsName, PointsAtDelimiter}

-- the same kind, or error 13 where plain mode has 10 (02 (vii))
pub data SameKind : ℕ → ℕ → Type 0 where
  equal : (k : ℕ) → SameKind k k
  thirteen : SameKind (kind.first_error + kind.InvalidCharDelimiter) (kind.first_error + kind.InvalidCharName)

-- two records whose words are the same but for the place and the kind; `rest` is text source, text places and depth
pub data SameRow : List ℕ → List ℕ → Type 0 where
  row : {k l : ℕ} → SameKind k l → (detail start end a b from to : ℕ) (rest : List ℕ)
      → SameRow (k ∷ detail ∷ start ∷ end ∷ a ∷ b ∷ rest) (l ∷ detail ∷ start ∷ end ∷ from ∷ to ∷ rest)

-- the records of report mode, and those of plain mode; R is what holds of two that stand side by side
pub data RowsTogether (R : List ℕ → List ℕ → Type 0) (source : List ℕ) : List (List ℕ) → List (List ℕ) → Type 0 where
  ends : RowsTogether R source [] []
  next : {r p : List ℕ} {rs ps : List (List ℕ)} → R r p → RowsTogether R source rs ps → RowsTogether R source (r ∷ rs) (p ∷ ps)
  -- from here on they may differ: a number, or error 8, and the source's byte after it is one of the three
  number : {r : List ℕ} {rs ps : List (List ℕ)} → (row_kind r ≡ kind.Number) ⊎ (row_kind r ≡ kind.first_error + kind.ZeroDenominator)
      → one_of (codes ";\"|") (get_or source (word r end_word) 0) ≡ true → RowsTogether R source (r ∷ rs) ps

-- Errors 13 and 10 (02 (vii)): "13 if the name contains `;`, `"`, `'` or `,` after its first character, with the place of the first of these,
-- and 10 otherwise". Of two records side by side, the one of plain mode is error 10 in the first two cases and in no other
pub data NamedTogether (source r p : List ℕ) : Type 0 where
  delimited : row_kind p ≡ kind.first_error + kind.InvalidCharName → row_kind r ≡ kind.first_error + kind.InvalidCharDelimiter → PointsAtDelimiter source r
      → NamedTogether source r p
  undelimited : row_kind p ≡ kind.first_error + kind.InvalidCharName → row_kind r ≡ kind.first_error + kind.InvalidCharName → IsName source r
      → Undelimited (name_of source r) → NamedTogether source r p
  neither : (row_kind p ≡ kind.first_error + kind.InvalidCharName → ⊥) → (row_kind r ≡ kind.first_error + kind.InvalidCharDelimiter → ⊥)
      → (row_kind r ≡ kind.first_error + kind.InvalidCharName → ⊥) → NamedTogether source r p
