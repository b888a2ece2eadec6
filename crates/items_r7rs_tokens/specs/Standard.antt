-- R7RS 7.1.1, <token>, as its own productions have it: every <delimiter> may follow, and the case of a letter is significant only in <character name>,
-- <mnemonic escape> and identifiers. Crate items_r7rs has these with the conditions under which they are read so here; where one is not met, a
-- row of docs/DIFFERENCES.md, part B, is.
use Rattle.std.specs.Prelude.{ℕ, ◌≡◌, Bool, true, false, List, [], ◌∷◌, ◌++◌, map, ◌⊎◌, length}
use Rattle.laws.specs.Letters.{lower}
use Rattle.laws.specs.Quoted.{codes, code, one_of}
use Rattle.laws.specs.Texts.{starts, same}
use Rattle.chars.specs.Encode.{bytes_of}
use Rattle.numbers.specs.declared.Parts.{Parts}
use Rattle.numbers.specs.Grammar.{zero_parts}
use Rattle.numbers_difference.specs.Conditions.{ComplexText, NumberText, SignBelowSlash, capital, sign_after_odd_e}
use Rattle.numbers_difference.specs.Productions.{Prefix}
use Rattle.numbers_difference.specs.R7rs.{ComplexAt}
use Rattle.items.specs.Kinds as kind
use Rattle.items_r7rs.specs.Boolean.{Boolean, truth}
use Rattle.items_r7rs.specs.Character.{CharacterText}
use Rattle.items_r7rs.specs.Delimiter.{number_delimiters, Ends}
use Rattle.items_r7rs.specs.Escape.{Mnemonic, HexScalar}
use Rattle.items_r7rs.specs.Identifier.{Plain, Peculiar, SymbolElements}
use Rattle.items_r7rs.specs.Punctuation.{Punctuation, MayFollow}
use Rattle.items_r7rs.specs.Reading.{Spelling, nothing, bytes}
use Rattle.items_r7rs.specs.Repeated.{Many}
use Rattle.items_r7rs.specs.String.{Intraline, indented, StringElements}
use Rattle.items_r7rs_words.specs.Words.{Among, own_words}

-- every <delimiter>, or the end: what ends a number in report mode
abbrev pub Delimited : List ℕ → Type 0
Delimited cs = Ends (number_delimiters true) cs

-- <line ending>
pub data LineEnding : List ℕ → Type 0 where
  newline : LineEnding (codes "\n")
  return_newline : LineEnding (codes "\r\n")
  return : LineEnding (codes "\r")

-- the x of an <inline hex escape>, in either case
abbrev pub IsX : ℕ → Type 0
IsX c = one_of (codes "xX") c ≡ true

-- the letter of an <exactness>
abbrev pub IsExactness : ℕ → Type 0
IsExactness c = one_of (codes "eEiI") c ≡ true

-- <string element>*, and what it denotes. 6.7: a <line ending> that stands for itself is a newline
pub data Elements : List ℕ → List ℕ → Type 0 where
  no_more : Elements [] []
  itself : {c : ℕ} {t v : List ℕ} → one_of (codes "\"\\\r") c ≡ false → Elements t v → Elements (c ∷ t) (c ∷ v)
  return : {t v : List ℕ} → starts (code "\n") t ≡ false → Elements t v → Elements (code "\r" ∷ t) (code "\n" ∷ v)
  return_newline : {t v : List ℕ} → Elements t v → Elements (code "\r" ∷ code "\n" ∷ t) (code "\n" ∷ v)
  mnemonic : {c x : ℕ} {t v : List ℕ} → Mnemonic c x → Elements t v → Elements (code "\\" ∷ c ∷ t) (x ∷ v)
  doublequote : {t v : List ℕ} → Elements t v → Elements (code "\\" ∷ code "\"" ∷ t) (code "\"" ∷ v)
  backslash : {t v : List ℕ} → Elements t v → Elements (code "\\" ∷ code "\\" ∷ t) (code "\\" ∷ v)
  vertical : {t v : List ℕ} → Elements t v → Elements (code "\\" ∷ code "|" ∷ t) (code "|" ∷ v)
  goes_on : (trailing : List ℕ) {e : List ℕ} (indent : List ℕ) {t v : List ℕ} → Many Intraline trailing → LineEnding e → Many Intraline indent → indented t ≡ false
      → Elements t v → Elements (code "\\" ∷ trailing ++ (e ++ (indent ++ t))) v
  hex : {c : ℕ} (h : List ℕ) {x : ℕ} {t v : List ℕ} → IsX c → HexScalar h x → Elements t v → Elements (code "\\" ∷ c ∷ h ++ (code ";" ∷ t)) (x ∷ v)

-- <symbol element>*, and what it denotes: `items_r7rs/specs/Identifier` has why these are its escapes
pub data Symbols : List ℕ → List ℕ → Type 0 where
  no_more : Symbols [] []
  itself : {c : ℕ} {t v : List ℕ} → one_of (codes "|\\") c ≡ false → Symbols t v → Symbols (c ∷ t) (c ∷ v)
  mnemonic : {c x : ℕ} {t v : List ℕ} → Mnemonic c x → Symbols t v → Symbols (code "\\" ∷ c ∷ t) (x ∷ v)
  doublequote : {t v : List ℕ} → Symbols t v → Symbols (code "\\" ∷ code "\"" ∷ t) (code "\"" ∷ v)
  backslash : {t v : List ℕ} → Symbols t v → Symbols (code "\\" ∷ code "\\" ∷ t) (code "\\" ∷ v)
  vertical : {t v : List ℕ} → Symbols t v → Symbols (code "\\" ∷ code "|" ∷ t) (code "|" ∷ v)
  goes_on : (trailing : List ℕ) {e : List ℕ} (indent : List ℕ) {t v : List ℕ} → Many Intraline trailing → LineEnding e → Many Intraline indent → indented t ≡ false
      → Symbols t v → Symbols (code "\\" ∷ trailing ++ (e ++ (indent ++ t))) v
  hex : {c : ℕ} (h : List ℕ) {x : ℕ} {t v : List ℕ} → IsX c → HexScalar h x → Symbols t v → Symbols (code "\\" ∷ c ∷ h ++ (code ";" ∷ t)) (x ∷ v)

-- what of these is an error here, or not what it denotes
pub data Departure : List ℕ → Type 0 where
  -- B34
  upper_x : {t : List ℕ} → Departure (code "\\" ∷ code "X" ∷ t)
  -- B38
  return_ends_line : (trailing t : List ℕ) → Many Intraline trailing → Departure (code "\\" ∷ trailing ++ (code "\r" ∷ t))
  -- B39, in a string
  return_alone : {t : List ℕ} → Departure (code "\r" ∷ t)

-- a token of the standard before cs: its text, and the kind, detail and spelling of its item
pub data Standard (cs : List ℕ) : List ℕ → ℕ → ℕ → Spelling → Type 0 where
  boolean : (t : List ℕ) {u : List ℕ} {b : Bool} → Boolean u b → map lower t ≡ u → Delimited cs → Standard cs t kind.BooleanLiteral (truth b) nothing
  character : {t : List ℕ} {c : ℕ} → CharacterText t c → Delimited cs → Standard cs t kind.CharacterLiteral c nothing
  upper_hex : {h : List ℕ} {c : ℕ} → HexScalar h c → Delimited cs → Standard cs (code "#" ∷ code "\\" ∷ code "X" ∷ h) kind.CharacterLiteral c nothing
  string : {t v : List ℕ} → Elements t v → Standard cs (code "\"" ∷ t ++ codes "\"") kind.StringLiteral 0 (bytes (bytes_of v))
  identifier : {t : List ℕ} → Plain t → Delimited cs → Standard cs t kind.Identifier 0 (bytes (bytes_of t))
  -- "+i, -i and <infnan> are exceptions to the <peculiar identifier> rule; they are parsed as numbers"
  peculiar : {t : List ℕ} → Peculiar t → (NumberText (bytes_of t) → ⊥) → Delimited cs → Standard cs t kind.Identifier 0 (bytes (bytes_of t))
  lined : {t v : List ℕ} → Symbols t v → Standard cs (code "|" ∷ t ++ codes "|") kind.Identifier 0 (bytes (bytes_of v))
  number : {t : List ℕ} → NumberText t → Delimited cs → Standard cs t kind.Number 0 nothing
  -- <prefix R> → <radix R> <exactness> | <exactness> <radix R>
  exact_first : {c : ℕ} {t : List ℕ} → IsExactness c → NumberText t → Delimited cs → Standard cs (code "#" ∷ c ∷ t) kind.Number 0 nothing
  exact_second : {R : ℕ} (c : ℕ) {g s : List ℕ} → Prefix R g → IsExactness c → ComplexText R s → Delimited cs → Standard cs (g ++ (code "#" ∷ c ∷ s)) kind.Number 0 nothing
  punctuation : {t : List ℕ} {k d : ℕ} (p : Punctuation t k d) → MayFollow p cs → Standard cs t k d nothing
  upper_bytes : Standard cs (codes "#U8(") kind.OpenParen kind.Bytes nothing
  dot : Delimited cs → Standard cs (codes ".") kind.Dot 0 nothing

-- a <delimiter> that does not end it here
pub data Behind (ks : List ℕ) : List ℕ → Type 0 where
  behind : {c : ℕ} {cs : List ℕ} → one_of ks c ≡ true → Behind ks (c ∷ cs)

-- the rows that such a token may meet
pub data Row (report : Bool) (cs : List ℕ) : List ℕ → Type 0 where
  -- B2: `|`, `"` or `;` behind a boolean
  behind_boolean : {t : List ℕ} {b : Bool} → Boolean t b → Behind (codes "|\";") cs → Row report cs t
  -- B40: the same behind a character
  behind_character : {t : List ℕ} {c : ℕ} → CharacterText t c → Behind (codes "|\";") cs → Row report cs t
  -- B4
  upper_boolean : {t u : List ℕ} {b : Bool} → Boolean u b → map lower t ≡ u → same t u ≡ false → Row report cs t
  -- B5
  upper_bytes : Row report cs (codes "#U8(")
  -- B35
  upper_hex : {h : List ℕ} {c : ℕ} → HexScalar h c → Row report cs (code "#" ∷ code "\\" ∷ code "X" ∷ h)
  -- B22 to B24: a vertical line behind a name, a sign or a dot
  behind_name : {t : List ℕ} → (Plain t ⊎ Peculiar t) ⊎ (t ≡ codes ".") → Behind (codes "|") cs → Row report cs t
  -- B26
  own_word : {t : List ℕ} {k : ℕ} → Plain t ⊎ Peculiar t → Among own_words (bytes_of t) k → Row report cs t
  -- B21
  plus_first : {c : ℕ} {t : List ℕ} → Peculiar (code "+" ∷ c ∷ t) → Row report cs (code "+" ∷ c ∷ t)
  -- B18
  below_slash : {t : List ℕ} → Peculiar t → SignBelowSlash (bytes_of t) → Row report cs t
  -- B34, B38, B39: the elements that agree, and one that does not
  in_string_case : (u : List ℕ) {v t : List ℕ} → StringElements u v → Departure t → Row report cs (code "\"" ∷ u ++ t)
  in_lines : (u : List ℕ) {v t : List ℕ} → SymbolElements u v → Departure t → Row report cs (code "|" ∷ u ++ t)
  -- B33
  nothing_left : {c : ℕ} {t : List ℕ} → SymbolElements (c ∷ t) [] → Row report cs (code "|" ∷ c ∷ t ++ codes "|")
  -- B10, B11: `|`, `"` or `;` behind a number, in plain mode
  behind_number : {t : List ℕ} → NumberText t → report ≡ false → Behind (codes "|\";") cs → Row report cs t
  -- B14
  exact_first : {c : ℕ} {t : List ℕ} → IsExactness c → NumberText t → Row report cs (code "#" ∷ c ∷ t)
  exact_second : {R : ℕ} (c : ℕ) {g s : List ℕ} → Prefix R g → IsExactness c → ComplexText R s → Row report cs (g ++ (code "#" ∷ c ∷ s))
  -- B19, B20, B15: a capital of i, inf or nan; in radix 16 a sign after an odd number of e's; a zero denominator
  capital_letter : {R : ℕ} {g s : List ℕ} {a : Parts} → Prefix R g → ComplexAt R (length g) s a → capital false s ≡ true → Row report cs (g ++ s)
  odd_e_case : {R : ℕ} {g s : List ℕ} {a : Parts} → Prefix R g → ComplexAt R (length g) s a → R ≡ 16 → sign_after_odd_e false s ≡ true → Row report cs (g ++ s)
  zero_denominator_case : {R : ℕ} {g s : List ℕ} {a : Parts} → Prefix R g → ComplexAt R (length g) s a → zero_parts a ≡ true → Row report cs (g ++ s)
