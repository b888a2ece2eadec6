-- Identifiers, the other way: what stands in the extent of an item of kind Identifier, and what its text spells. A condition stands for a row of
-- docs/DIFFERENCES.md, part B.
use Rattle.std.specs.Prelude.{ℕ, ◌≡◌, true, ◌||◌, List, [], ◌∷◌, ◌++◌, ◌⊎◌, drop, eqb, ltb}
use Rattle.laws.specs.Quoted.{codes, code, one_of}
use Rattle.chars.specs.Encode.{bytes_of}
use Rattle.items.specs.Items.{Item}
use Rattle.items.specs.Kinds as kind
use Rattle.items_r7rs.specs.Converse.{extent}
use Rattle.items_r7rs.specs.Escape.{digits}
use Rattle.items_r7rs.specs.Identifier.{Subsequent, Plain, Peculiar, Unsplit, explicit_signs, SymbolElements, Lined}
use Rattle.items_r7rs.specs.Reading.{Spelling, bytes, spelling}
use Rattle.items_r7rs.specs.Repeated.{Many}

-- ---- without vertical lines around it

-- what a name may have that is no <subsequent>
pub data Odd (c : ℕ) : Type 0 where
  mark : one_of (codes "#|\\") c ≡ true → Odd c
  control : (ltb c 0x20 || eqb c 0x7F) ≡ true → Odd c

-- what the standard has for no <identifier>
pub data ForeignName : List ℕ → Type 0 where
  -- the first character that is no <subsequent>: `#` (B2 to B10, B12 to B14, B16, B19, B20, B27, B28), a vertical line (B22, B24, B25), a backslash or a control
  -- character (B28)
  odd : (u : List ℕ) {c : ℕ} (t : List ℕ) → Many Subsequent u → Odd c → ForeignName (u ++ (c ∷ t))
  -- all others are <subsequent>s, and an at sign is the first: B28
  at_sign : {t : List ℕ} → Many Subsequent t → ForeignName (code "@" ∷ t)
  -- it begins as a number does: it is none (B16), has a capital (B19), or something behind it keeps it from being one (B10, B12, B13)
  digit : {c : ℕ} {t : List ℕ} → one_of digits c ≡ true → Many Subsequent t → ForeignName (c ∷ t)
  dot_digit : {c : ℕ} {t : List ℕ} → one_of digits c ≡ true → Many Subsequent t → ForeignName (code "." ∷ c ∷ t)
  sign_digit : {s c : ℕ} {t : List ℕ} → one_of explicit_signs s ≡ true → one_of digits c ≡ true → Many Subsequent t → ForeignName (s ∷ c ∷ t)
  sign_dot_digit : {s c : ℕ} {t : List ℕ} → one_of explicit_signs s ≡ true → one_of digits c ≡ true → Many Subsequent t → ForeignName (s ∷ code "." ∷ c ∷ t)
  -- a sign and a dot: B28
  sign_dot : {s : ℕ} → one_of explicit_signs s ≡ true → ForeignName (s ∷ code "." ∷ [])

-- an <identifier> without vertical lines, or a foreign name
abbrev pub Name : List ℕ → Type 0
Name t = (Plain t ⊎ Peculiar t) ⊎ ForeignName t

-- ---- in vertical lines

-- an escape that the standard has not there: B32
pub data ForeignEscape : List ℕ → Type 0 where
  null : {t : List ℕ} → ForeignEscape (code "\\" ∷ code "0" ∷ t)
  unicode : {t : List ℕ} → ForeignEscape (code "\\" ∷ code "u" ∷ t)
  plus : {t : List ℕ} → ForeignEscape (code "\\" ∷ code "x" ∷ code "+" ∷ t)

-- ---- every identifier

-- an extent before `rest`, and what the text of an item of it spells
pub data NameRead (rest : List ℕ) : List ℕ → Spelling → Type 0 where
  named : {t : List ℕ} → Name t → Unsplit t → NameRead rest t (bytes (bytes_of t))
  -- a name that begins with `+` and goes on has two items (B21, B22): this is one's
  plus : {c : ℕ} {t : List ℕ} → Name (code "+" ∷ c ∷ t) → NameRead rest (code "+" ∷ c ∷ t) (bytes (codes "+"))
  -- and this the other's
  behind_plus : {c : ℕ} {t : List ℕ} → Name (code "+" ∷ c ∷ t) → NameRead rest (code "+" ∷ c ∷ t) (bytes (bytes_of (c ∷ t)))
  -- the standard's, in vertical lines
  lined : {t v : List ℕ} → Lined t v → NameRead rest t (bytes (bytes_of v))
  -- B31: the last line is an escape's, and the text ends
  escaped_line : (u : List ℕ) {v : List ℕ} → rest ≡ [] → SymbolElements u v → NameRead rest (code "|" ∷ u ++ codes "\\|") (bytes (bytes_of (v ++ codes "|")))
  -- B32: the standard's elements up to a foreign escape
  foreign_escape : (u : List ℕ) {v t : List ℕ} {w : Spelling} → SymbolElements u v → ForeignEscape t → NameRead rest (code "|" ∷ u ++ t) w
  -- B33: lines that go on, of which nothing is left
  nothing_left : {c : ℕ} {t : List ℕ} → SymbolElements (c ∷ t) [] → NameRead rest (code "|" ∷ c ∷ t ++ codes "|") (bytes (bytes_of (c ∷ t)))

-- an item of kind Identifier
abbrev pub IdentifierIn : List ℕ → Item → Type 0
IdentifierIn whole i =
    eqb i.kind kind.Identifier ≡ true
    → (t rest : List ℕ) × (extent whole i ≡ bytes_of t) × (drop i.end whole ≡ bytes_of rest) × NameRead rest t (spelling i.start (bytes_of t) i.text)
