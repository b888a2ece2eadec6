-- What the round trip keeps: "the same kinds, details, texts and number parts".
use Rattle.std.specs.Prelude.{ℕ, Bool, true, false, not, ◌&&◌, List, [], ◌∷◌, eqb, ltb, if◌then◌else◌, Err}
use Rattle.numbers.specs.declared.ParseError.TheVariants.{NoNumber}
use Rattle.numbers.specs.Grammar.{parse_number, Parsed}
use Rattle.items.specs.Kinds as kind
use Rattle.items.specs.Meaning.{Text, none, source, decoded}
use Rattle.items.specs.Items.{Item, depth_after}
use Rattle.items_r7rs.specs.Reading.{Spelling, nothing, bytes}
use Rattle.items_writing.specs.Written.{part}

pub record Shape : Type 0 where
  pub kind : ℕ
  pub detail : ℕ
  pub text : Spelling
  -- of a number what the number call gives for its extent
  pub number : Parsed

abbrev pub shape : ℕ → ℕ → Spelling → Parsed → Shape
shape k d t n = record { kind = k; detail = d; text = t; number = n }

abbrev pub spells : List ℕ → Text → Spelling
spells s none = nothing
spells s (source a b) = bytes (part a b s)
spells s (decoded bs) = bytes bs

-- the parts of a number of these bytes; any other item has none
unfoldable pub number_of : ℕ → List ℕ → Parsed
number_of k raw = if eqb k kind.Number then parse_number raw else (Err NoNumber)

-- the items of a text s
abbrev pub shape_of : List ℕ → Item → Shape
shape_of s i = shape i.kind i.detail (spells s i.text) (number_of i.kind (part i.start i.end s))

abbrev pub shapes : List ℕ → List Item → List Shape
shapes s [] = []
shapes s (i ∷ is) = shape_of s i ∷ shapes s is

-- the tenth word of each record (02 (vi)), d being the first of them
unfoldable pub depths : ℕ → List Item → List ℕ
depths d [] = []
depths d (i ∷ is) = d ∷ depths (depth_after i.kind d) is

-- no error and no comment item
unfoldable pub clean : List Item → Bool
clean [] = true
clean (i ∷ is) = let more = clean is in if ltb i.kind kind.first_error && not (eqb i.kind kind.Comment) then more else false
