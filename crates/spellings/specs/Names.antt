-- The nine names of the definition, row by row, and a name as a row of nine bytes. A means of proof: the public contract cites
-- `character_of` alone.
use Rattle.std.specs.Prelude.{ℕ, ◌-◌, List, [], ◌++◌, length, get_or, replicate}
use Rattle.items.specs.Meaning.{Row, char_names}

abbrev pub no_row : Row
no_row = record { text = []; number = 0 }

-- the name and the code of row k
abbrev pub name_of : ℕ → List ℕ
name_of k = (get_or char_names k no_row).text

abbrev pub code_of : ℕ → ℕ
code_of k = (get_or char_names k no_row).number

-- nine bytes, a shorter name padded
abbrev pub padded : List ℕ → List ℕ
padded name = name ++ replicate (9 - length name) 0
