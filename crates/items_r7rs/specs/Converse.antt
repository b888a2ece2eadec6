-- The other way: what is read as a token of the standard is of its production, or meets a condition, which stands for a row of docs/DIFFERENCES.md,
-- part B. A condition speaks of the characters of an item's extent alone.
use Rattle.std.specs.Prelude.{ℕ, ◌-◌, ◌≡◌, Bool, true, List, [], ◌∷◌, ◌++◌, map, ◌⊎◌, take, drop, eqb}
use Rattle.laws.specs.Quoted.{codes, code, one_of}
use Rattle.chars.specs.Encode.{bytes_of}
use Rattle.items.specs.Items.{Item}
use Rattle.items.specs.Kinds as kind
use Rattle.laws.specs.Letters.{lower}
use Rattle.numbers_difference.specs.Conditions.{NumberText, SignBelowSlash}
use Rattle.items_r7rs.specs.Boolean.{Boolean, truth}
use Rattle.items_r7rs.specs.Character.{CharacterName, CharacterText}
use Rattle.items_r7rs.specs.Escape.{HexScalar}
use Rattle.items_r7rs.specs.Punctuation.{Punctuation}
use Rattle.items_r7rs.specs.Reading.{Spelling, bytes, spelling}
use Rattle.items_r7rs.specs.String.{StringElements, StringText}

-- the bytes of an item's extent, in a text with the bytes `whole`
abbrev pub extent : List ℕ → Item → List ℕ
extent whole i = take (i.end - i.start) (drop i.start whole)

-- ---- booleans

-- the bytes of a <boolean>, and its truth value as a detail
abbrev pub BooleanBytes : List ℕ → ℕ → Type 0
BooleanBytes raw d = (t : List ℕ) × (b : Bool) × (raw ≡ bytes_of t) × Boolean t b × (d ≡ truth b)

-- in a text with these bytes, an item of kind BooleanLiteral: its extent is a <boolean>, and its detail the truth value
abbrev pub BooleanIn : List ℕ → Item → Type 0
BooleanIn whole i = eqb i.kind kind.BooleanLiteral ≡ true → BooleanBytes (extent whole i) i.detail

-- ---- brackets and marks

abbrev pub brackets : List ℕ
brackets = kind.OpenParen ∷ kind.CloseParen ∷ []

abbrev pub marks : List ℕ
marks = kind.QuoteTick ∷ kind.QuasiQuote ∷ kind.Unquote ∷ kind.UnquoteSplice ∷ []

-- a bracket, its kind and its shape: one of the standard's, or one that the standard reserves (B1)
pub data Bracket : List ℕ → ℕ → ℕ → Type 0 where
  standard : {t : List ℕ} {k d : ℕ} → Punctuation t k d → Bracket t k d
  open_square_case : Bracket (codes "[") kind.OpenParen kind.Square
  close_square_case : Bracket (codes "]") kind.CloseParen kind.Square
  open_curly_case : Bracket (codes "{") kind.OpenParen kind.Curly
  close_curly_case : Bracket (codes "}") kind.CloseParen kind.Curly

-- an item of kind OpenParen or CloseParen: its extent is a bracket, and its detail the bracket's shape
abbrev pub BracketIn : List ℕ → Item → Type 0
BracketIn whole i = one_of brackets i.kind ≡ true → (t : List ℕ) × (extent whole i ≡ bytes_of t) × Bracket t i.kind i.detail

-- an item of the kind of a mark: its extent is that mark. No row departs here
abbrev pub MarkIn : List ℕ → Item → Type 0
MarkIn whole i = one_of marks i.kind ≡ true → (t : List ℕ) × (extent whole i ≡ bytes_of t) × Punctuation t i.kind i.detail

-- ---- strings

-- what stands in quotes where the standard has no <string element>: a <return>, which there is a newline (B39), or an escape that it has not (B36)
pub data ForeignElement : List ℕ → Type 0 where
  return : {t : List ℕ} → ForeignElement (code "\r" ∷ t)
  null : {t : List ℕ} → ForeignElement (code "\\" ∷ code "0" ∷ t)
  unicode : {t : List ℕ} → ForeignElement (code "\\" ∷ code "u" ∷ t)
  plus : {t : List ℕ} → ForeignElement (code "\\" ∷ code "x" ∷ code "+" ∷ t)

-- a here-string (B7), or quotes whose elements are the standard's up to a foreign one
pub data ForeignString : List ℕ → Type 0 where
  here_string : {t : List ℕ} → ForeignString (code "#" ∷ code "<" ∷ code "<" ∷ t)
  quoted : (u : List ℕ) {v t : List ℕ} → StringElements u v → ForeignElement t → ForeignString (code "\"" ∷ u ++ t)

-- a string, and what its item's text spells: a <string>, spelled as what it denotes, or a foreign one
pub data StringRead : List ℕ → Spelling → Type 0 where
  standard : {t v : List ℕ} → StringText t v → StringRead t (bytes (bytes_of v))
  foreign : {t : List ℕ} {w : Spelling} → ForeignString t → StringRead t w

-- an item of kind StringLiteral
abbrev pub StringIn : List ℕ → Item → Type 0
StringIn whole i = eqb i.kind kind.StringLiteral ≡ true
    → (t : List ℕ) × (extent whole i ≡ bytes_of t) × StringRead t (spelling i.start (bytes_of t) i.text)

-- ---- characters

-- a <hex scalar value>, a plus before it or not
pub data SignedScalar : List ℕ → ℕ → Type 0 where
  unsigned : {h : List ℕ} {c : ℕ} → HexScalar h c → SignedScalar h c
  after_plus : {h : List ℕ} {c : ℕ} → HexScalar h c → SignedScalar (code "+" ∷ h) c

-- a text, and the character of its item: a name in other letter case (B41), or a form that the standard has not (B36)
pub data ForeignCharacter : List ℕ → ℕ → Type 0 where
  other_case : {t n : List ℕ} {c : ℕ} → CharacterName n c → map lower t ≡ n → ForeignCharacter (code "#" ∷ code "\\" ∷ t) c
  unicode : {h : List ℕ} {c : ℕ} → SignedScalar h c → ForeignCharacter (code "#" ∷ code "\\" ∷ code "u" ∷ h) c
  braced : (h : List ℕ) {c : ℕ} → SignedScalar h c → ForeignCharacter (codes "#\\u{" ++ (h ++ codes "}")) c
  plus : {h : List ℕ} {c : ℕ} → HexScalar h c → ForeignCharacter (code "#" ∷ code "\\" ∷ code "x" ∷ code "+" ∷ h) c

-- an item of kind CharacterLiteral: its extent is a <character> or a foreign one, and its detail that character
abbrev pub CharacterIn : List ℕ → Item → Type 0
CharacterIn whole i = eqb i.kind kind.CharacterLiteral ≡ true
    → (t : List ℕ) × (extent whole i ≡ bytes_of t) × (CharacterText t i.detail ⊎ ForeignCharacter t i.detail)

-- ---- numbers

-- an item of kind Number: its extent is a <number>, or one with a sign below the slash (B17, B18). The characters of both are their bytes
abbrev pub NumberTextIn : List ℕ → Item → Type 0
NumberTextIn whole i = eqb i.kind kind.Number ≡ true → NumberText (extent whole i) ⊎ SignBelowSlash (extent whole i)
