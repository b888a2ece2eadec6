-- R7RS 7.1.1:
--   <identifier> → <initial> <subsequent>* | <vertical line> <symbol element>* <vertical line> | <peculiar identifier>
--   <initial> → <letter> | <special initial>
--   <letter> → a | b | c | ... | z | A | B | C | ... | Z
--   <special initial> → ! | $ | % | & | * | / | : | < | = | > | ? | ^ | _ | ~
--   <subsequent> → <initial> | <digit> | <special subsequent>
--   <digit> → 0 | 1 | 2 | 3 | 4 | 5 | 6 | 7 | 8 | 9
--   <explicit sign> → + | -
--   <special subsequent> → <explicit sign> | . | @
--   <peculiar identifier> → <explicit sign> | <explicit sign> <sign subsequent> <subsequent>*
--     | <explicit sign> . <dot subsequent> <subsequent>* | . <dot subsequent> <subsequent>*
--   <dot subsequent> → <sign subsequent> | .
--   <sign subsequent> → <initial> | <explicit sign> | @
use Rattle.std.specs.Prelude.{ℕ, ◌≤◌, ◌≡◌, true, false, List, [], ◌∷◌, ◌++◌, eqb}
use Rattle.laws.specs.Quoted.{codes, code, one_of}
use Rattle.chars.specs.Blank.{is_blank}
use Rattle.items_r7rs.specs.Escape.{digits, Mnemonic, HexScalar}
use Rattle.items_r7rs.specs.Repeated.{Many}
use Rattle.items_r7rs.specs.String.{Intraline, indented}

abbrev pub letters : List ℕ
letters = codes "abcdefghijklmnopqrstuvwxyzABCDEFGHIJKLMNOPQRSTUVWXYZ"

abbrev pub special_initials : List ℕ
special_initials = codes "!$%&*/:<=>?^_~"

abbrev pub explicit_signs : List ℕ
explicit_signs = codes "+-"

pub data Initial : ℕ → Type 0 where
  letter : {c : ℕ} → one_of letters c ≡ true → Initial c
  special : {c : ℕ} → one_of special_initials c ≡ true → Initial c
  -- the standard lets an implementation take other characters of Unicode, by their general category: letters, marks, numbers,
  -- punctuation, symbols. None of these is White_Space. Departure: what is read as one here is more, `«` and a digit first (B30)
  beyond : {c : ℕ} → 0x80 ≤ c → is_blank c ≡ false → Initial c

pub data Subsequent : ℕ → Type 0 where
  initial : {c : ℕ} → Initial c → Subsequent c
  numeral : {c : ℕ} → one_of digits c ≡ true → Subsequent c
  special : {c : ℕ} → one_of (codes "+-.@") c ≡ true → Subsequent c

-- <initial> <subsequent>*
pub data Plain : List ℕ → Type 0 where
  plain : {c : ℕ} {t : List ℕ} → Initial c → Many Subsequent t → Plain (c ∷ t)

pub data SignSubsequent : ℕ → Type 0 where
  initial : {c : ℕ} → Initial c → SignSubsequent c
  special : {c : ℕ} → one_of (codes "+-@") c ≡ true → SignSubsequent c

pub data DotSubsequent : ℕ → Type 0 where
  sign : {c : ℕ} → SignSubsequent c → DotSubsequent c
  dot_again : DotSubsequent (code ".")

-- <peculiar identifier>, a line for each of its four forms
pub data Peculiar : List ℕ → Type 0 where
  alone : {c : ℕ} → one_of explicit_signs c ≡ true → Peculiar (c ∷ [])
  signed : {c d : ℕ} {t : List ℕ} → one_of explicit_signs c ≡ true → SignSubsequent d → Many Subsequent t → Peculiar (c ∷ d ∷ t)
  signed_dot : {c d : ℕ} {t : List ℕ} → one_of explicit_signs c ≡ true → DotSubsequent d → Many Subsequent t → Peculiar (c ∷ code "." ∷ d ∷ t)
  dotted : {d : ℕ} {t : List ℕ} → DotSubsequent d → Many Subsequent t → Peculiar (code "." ∷ d ∷ t)

-- Departure: a peculiar identifier that begins with + and goes on is two identifiers to the Rust. `+a`
pub data Unsplit : List ℕ → Type 0 where
  plus : Unsplit (codes "+")
  other : {c : ℕ} {t : List ℕ} → eqb c (code "+") ≡ false → Unsplit (c ∷ t)

-- <symbol element>*, and the characters that it denotes:
--   <symbol element> → <any character other than <vertical line> or \> | <inline hex escape> | <mnemonic escape> | \|
-- 2.1: "characters can be specified using either an <inline hex escape> or the same escapes that are available in strings", so \" and \\
-- are elements too, and a line that goes on
pub data SymbolElements : List ℕ → List ℕ → Type 0 where
  no_more : SymbolElements [] []
  itself : {c : ℕ} {t v : List ℕ} → one_of (codes "|\\") c ≡ false → SymbolElements t v → SymbolElements (c ∷ t) (c ∷ v)
  mnemonic : {c x : ℕ} {t v : List ℕ} → Mnemonic c x → SymbolElements t v → SymbolElements (code "\\" ∷ c ∷ t) (x ∷ v)
  vertical : {t v : List ℕ} → SymbolElements t v → SymbolElements (code "\\" ∷ code "|" ∷ t) (code "|" ∷ v)
  doublequote : {t v : List ℕ} → SymbolElements t v → SymbolElements (code "\\" ∷ code "\"" ∷ t) (code "\"" ∷ v)
  backslash : {t v : List ℕ} → SymbolElements t v → SymbolElements (code "\\" ∷ code "\\" ∷ t) (code "\\" ∷ v)
  goes_on : (trailing indent : List ℕ) {t v : List ℕ} → Many Intraline trailing → Many Intraline indent → indented t ≡ false → SymbolElements t v
      → SymbolElements (code "\\" ∷ trailing ++ (code "\n" ∷ indent ++ t)) v
  hex : (h : List ℕ) {x : ℕ} {t v : List ℕ} → HexScalar h x → SymbolElements t v → SymbolElements (code "\\" ∷ code "x" ∷ h ++ (code ";" ∷ t)) (x ∷ v)

-- elements that leave something of the name, if there are any. Departure: lines that go on and leave nothing (B33)
pub data Remains : List ℕ → List ℕ → Type 0 where
  empty : Remains [] []
  some : {x : ℕ} {t v : List ℕ} → Remains t (x ∷ v)

-- an identifier in vertical lines, and its name
pub data Lined : List ℕ → List ℕ → Type 0 where
  lined : {t v : List ℕ} → SymbolElements t v → Remains t v → Lined (code "|" ∷ t ++ codes "|") v
