-- Rows in lent memory: the first ones that fit are written, whole, from the start, and all of them are counted. It serves the rows of a
-- plan, ten words each, and its findings, seven words each.
use Rattle.std.specs.Prelude.{ℕ, ◌+◌, List, [], ◌∷◌, ◌++◌, length, take, drop, leb, if◌then◌else◌}
use Rattle.laws.specs.Lent.{written}

-- the words of some rows, one row after the other
unfoldable pub flat : List (List ℕ) → List ℕ
flat [] = []
flat (row ∷ rows) = row ++ flat rows

-- as many whole rows as fit; what lies past them stays
unfoldable pub laid_rows : List (List ℕ) → List ℕ → List ℕ
laid_rows [] memory = memory
laid_rows (row ∷ rows) memory =
    let more = row ++ laid_rows rows (drop (length row) memory) in
    if leb (length row) (length memory) then more else memory

-- how many rows there are, and what the lent memory then holds
pub record Laid : Type 0 where
  pub count : ℕ
  pub memory : List ℕ

abbrev pub laid : ℕ → List ℕ → Laid
laid n memory = record { count = n; memory = memory }

abbrev pub all_laid : List (List ℕ) → List ℕ → Laid
all_laid rows memory = laid (length rows) (laid_rows rows memory)

-- ---- as the code does it: w words are taken by the rows before, be they written or only counted

-- one row more
abbrev pub laid_at : ℕ → List ℕ → List ℕ → List ℕ
laid_at w row memory = if leb (w + length row) (length memory) then written (take w memory ++ row) memory else memory

-- some rows more
unfoldable pub laid_rows_from : ℕ → List (List ℕ) → List ℕ → List ℕ
laid_rows_from w [] memory = memory
laid_rows_from w (row ∷ rows) memory = laid_rows_from (w + length row) rows (laid_at w row memory)
