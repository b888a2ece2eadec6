-- What stands behind a token. R7RS 7.1.1: "<Identifier>s that do not begin with a vertical line are terminated by a <delimiter> or by the end
-- of the input. So are dot, numbers, characters, and booleans." Each condition stands for rows of docs/DIFFERENCES.md, part B.
use Rattle.std.specs.Prelude.{ℕ, ◌≡◌, Bool, true, false, List, [], ◌∷◌, ◌⊎◌, drop, eqb}
use Rattle.laws.specs.Quoted.{codes, code, one_of}
use Rattle.chars.specs.Blank.{is_blank}
use Rattle.chars.specs.Encode.{bytes_of}
use Rattle.numbers.specs.declared.Parts.{Parts}
use Rattle.items.specs.Items.{Item}
use Rattle.items.specs.Kinds as kind
use Rattle.items.specs.Readers.{first_is}
use Rattle.items_r7rs.specs.Converse.{extent}
use Rattle.items_r7rs.specs.Delimiter.{delimiters, number_delimiters}
use Rattle.items_r7rs.specs.Written.{Written}
use Rattle.items_r7rs_words.specs.Words.{own_kinds}

-- nothing, or a character that may end it
pub data Behind (May : ℕ → Type 0) : List ℕ → Type 0 where
  at_end : Behind May []
  before : {c : ℕ} {cs : List ℕ} → May c → Behind May (c ∷ cs)

-- what ends a number: a <delimiter>, in plain mode none of `|`, `"` and `;` (B10, B11); a square bracket, which the standard reserves (B1); a blank
-- that it has not (B42)
pub data EndsNumber (report : Bool) (c : ℕ) : Type 0 where
  delimiter : one_of (number_delimiters report) c ≡ true → EndsNumber report c
  square : one_of (codes "[]") c ≡ true → EndsNumber report c
  blank : is_blank c ≡ true → EndsNumber report c

-- what ends a name: a <delimiter> but a vertical line (B24); a bracket that the standard reserves (B1); a mark, before which it wants a
-- <delimiter> (B29); a blank that it has not (B42)
pub data EndsName (c : ℕ) : Type 0 where
  delimiter : one_of delimiters c ≡ true → EndsName c
  reserved : one_of (codes "[]{}") c ≡ true → EndsName c
  mark : one_of (codes "'`,") c ≡ true → EndsName c
  blank : is_blank c ≡ true → EndsName c

-- what ends a boolean and a character is what ends a number in plain mode: none of `|`, `"` and `;` (B2, B40)
abbrev pub EndsHash : ℕ → Type 0
EndsHash c = EndsNumber false c

-- an item of kind Number
abbrev pub NumberBefore : Bool → List ℕ → Item → Type 0
NumberBefore report whole i =
    eqb i.kind kind.Number ≡ true → (rest : List ℕ) × (drop i.end whole ≡ bytes_of rest) × Behind (EndsNumber report) rest

-- the kinds of names
abbrev pub name_kinds : List ℕ
name_kinds = kind.Identifier ∷ own_kinds

-- an item of kind Identifier or Dot, or a word with a kind of its own, unless it begins with a plus (B22) or a vertical line. A run that is no
-- number ends as a number does
abbrev pub NameBefore : Bool → List ℕ → Item → Type 0
NameBefore report whole i =
    one_of name_kinds i.kind ≡ true → first_is (code "+") (extent whole i) ≡ false → first_is (code "|") (extent whole i) ≡ false
    → (rest : List ℕ) × (drop i.end whole ≡ bytes_of rest) × Behind (λ c. EndsName c ⊎ EndsNumber report c) rest

-- an item of kind BooleanLiteral or CharacterLiteral
abbrev pub hash_kinds : List ℕ
hash_kinds = kind.BooleanLiteral ∷ kind.CharacterLiteral ∷ []

abbrev pub HashBefore : List ℕ → Item → Type 0
HashBefore whole i = one_of hash_kinds i.kind ≡ true → (rest : List ℕ) × (drop i.end whole ≡ bytes_of rest) × Behind EndsHash rest

-- what keeps a number from being one: a brace, which the standard reserves (B12); a mark (B13); in plain mode `;` and `"` (B10)
pub data KeepsNumber (report : Bool) (c : ℕ) : Type 0 where
  brace : one_of (codes "{}") c ≡ true → KeepsNumber report c
  mark : one_of (codes "'`,") c ≡ true → KeepsNumber report c
  plain : report ≡ false → one_of (codes ";\"") c ≡ true → KeepsNumber report c

pub data Kept (report : Bool) : List ℕ → Type 0 where
  kept : {c : ℕ} {cs : List ℕ} → KeepsNumber report c → Kept report (c ∷ cs)

-- an item of kind Identifier: if its extent is a <number>, and none of B14, B15, B19 and B20, something stands behind it that keeps it from being one
abbrev pub NumberKept : Bool → List ℕ → Item → Type 0
NumberKept report whole i =
    eqb i.kind kind.Identifier ≡ true
    → (t rest : List ℕ) × (extent whole i ≡ bytes_of t) × (drop i.end whole ≡ bytes_of rest) × ((a : Parts) → Written t a → Kept report rest)
