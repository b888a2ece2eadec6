-- The rows of a plan: ten words each, as a record has them, but an error is an atom to the nested lists.
use Rattle.std.specs.Prelude.{ℕ, ◌-◌, List, [], ◌∷◌, leb, if◌then◌else◌}
use Rattle.items.specs.Kinds as kind
use Rattle.items.specs.Items.{Item, depth_after}
use Rattle.findings_rows.specs.Mended.{mended_of}

-- kind, detail, extent, place, then an error's number and its detail, 0, and the depth
abbrev pub fine_row : ℕ → Item → List ℕ
fine_row depth i = i.kind ∷ i.detail ∷ i.start ∷ i.end ∷ i.place.from ∷ i.place.to ∷ 0 ∷ 0 ∷ 0 ∷ depth ∷ []

-- an error has the kind of an identifier
abbrev pub error_row : ℕ → Item → List ℕ
error_row depth i =
    kind.Identifier ∷ 0 ∷ i.start ∷ i.end ∷ i.place.from ∷ i.place.to ∷ (i.kind - kind.first_error) ∷ i.detail ∷ 0 ∷ depth ∷ []

abbrev pub row_of : ℕ → Item → List ℕ
row_of depth i = if leb kind.first_error i.kind then error_row depth i else fine_row depth i

-- the rows of some items; `depth` is the depth before the first
unfoldable pub rows_from : ℕ → List Item → List (List ℕ)
rows_from depth [] = []
rows_from depth (i ∷ is) = row_of depth i ∷ rows_from (depth_after i.kind depth) is

-- the rows of a plan
abbrev pub rows_of : List ℕ → List (List ℕ)
rows_of source = rows_from 0 (mended_of source)
