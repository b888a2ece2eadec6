-- "Offices edit plans": the items of a text, each with another text. Only identifiers and strings are written by their text.
use Rattle.std.specs.Prelude.{Bool, ◌||◌, List, [], ◌∷◌, ℕ, eqb, if◌then◌else◌}
use Rattle.items.specs.Kinds as kind
use Rattle.items_r7rs.specs.Reading.{bytes}
use Rattle.items_writing.specs.Written.{Entry}
use Rattle.items_writing.specs.Shapes.{Shape, shape}

abbrev pub retext : Entry → List ℕ → Entry
retext e t = record { kind = e.kind; start = e.start; end = e.end; raw = e.raw; text = t }

-- the first of them with these texts; the others as they are
unfoldable pub edited : List Entry → List (List ℕ) → List Entry
edited es [] = es
edited [] (t ∷ ts) = []
edited (e ∷ es) (t ∷ ts) = retext e t ∷ edited es ts

abbrev pub by_text : ℕ → Bool
by_text k = eqb k kind.Identifier || eqb k kind.StringLiteral

-- what they then are to read as: identifiers and strings have the new text
abbrev pub reshape : Shape → List ℕ → Shape
reshape s t = if by_text s.kind then shape s.kind s.detail (bytes t) s.number else s

unfoldable pub reshaped : List Shape → List (List ℕ) → List Shape
reshaped ss [] = ss
reshaped [] (t ∷ ts) = []
reshaped (s ∷ ss) (t ∷ ts) = reshape s t ∷ reshaped ss ts
