-- What an item points at in report mode: an error at its own place, each by its number (02 (ii), (vii)); any other item at its extent.
use Rattle.std.specs.Prelude.{ℕ, ◌+◌, ◌≤◌, ◌<◌, ◌≡◌, true, List, [], ◌∷◌, ltb}
use Rattle.laws.specs.Quoted.{one_of}
use Rattle.items.specs.Kinds as kind
use Rattle.items.specs.Items.{Item, range}

-- the errors that point at a whole escape in quotes
abbrev pub escape_errors : List ℕ
escape_errors = kind.UnclosedHexEscape ∷ kind.InvalidHexCodePoint ∷ []

-- the errors whose place may be their extent: those that set no range, and those of a character such as `#\xD800`
abbrev pub extent_errors : List ℕ
extent_errors =
    kind.UnexpectedChar ∷ kind.IncompleteString ∷ kind.IncompleteIdentifier ∷ kind.IncompleteComment ∷ kind.InvalidCharacter
    ∷ kind.ZeroDenominator ∷ kind.InvalidCharName ∷ escape_errors

-- the longest character has four bytes
abbrev pub widest : ℕ
widest = 4

-- Error n, whose extent goes from s to e, points at a to b
pub data PointsAt (s e n a b : ℕ) : Type 0 where
  -- its extent: `1/0`, `#\lambda`
  extent : one_of extent_errors n ≡ true → a ≡ s → b ≡ e → PointsAt s e n a b
  -- the escape, within the extent: `"\xD800;"`, extent 0..8, place 1..8
  escape : one_of escape_errors n ≡ true → s ≤ a → a < b → b ≤ e → PointsAt s e n a b
  -- a character between the digits, a digit, or the empty place where digits should stand: `"\x4G1;"`, extent 0..7, place 4..5
  failing : n ≡ kind.InvalidHexEscapeLiteral → s < a → a ≤ b → b ≤ e → PointsAt s e n a b
  -- a delimiter in a character's name: `#\a;`, extent 0..4, place 3..4
  delimiter : n ≡ kind.InvalidCharDelimiter → s + 2 < a → b ≡ a + 1 → b ≤ e → PointsAt s e n a b
  -- the character that stopped it, just past the extent: `"\ x"`, extent 0..3, place 3..4
  stopped : n ≡ kind.InvalidWhitespace → a ≡ e → a < b → b ≤ e + widest → PointsAt s e n a b
  -- from its backslash, where the extent ends, through the character that stopped it: `"\q"`, extent 0..2, place 1..3
  backslash : n ≡ kind.InvalidStringEscape → s ≤ a → a + 1 ≡ e → e < b → b ≤ e + widest → PointsAt s e n a b

pub data OwnPlace (i : Item) : Type 0 where
  good : ltb i.kind kind.first_error ≡ true → i.place ≡ range i.start i.end → OwnPlace i
  error : (n : ℕ) → i.kind ≡ kind.first_error + n → PointsAt i.start i.end n i.place.from i.place.to → OwnPlace i
