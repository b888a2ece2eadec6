-- R7RS 7.1.1:
--   <string> → " <string element>* "
--   <string element> → <any character other than " or \> | <mnemonic escape> | \" | \\
--     | \<intraline whitespace>*<line ending><intraline whitespace>* | <inline hex escape>
--   <intraline whitespace> → <space or tab>
use Rattle.std.specs.Prelude.{ℕ, ◌≡◌, Bool, true, false, List, [], ◌∷◌, ◌++◌}
use Rattle.laws.specs.Quoted.{codes, code, one_of}
use Rattle.items_r7rs.specs.Escape.{Mnemonic, HexScalar}
use Rattle.items_r7rs.specs.Repeated.{Many}

abbrev pub intraline : List ℕ
intraline = codes " \t"

abbrev pub Intraline : ℕ → Type 0
Intraline c = one_of intraline c ≡ true

-- whether a text starts with <intraline whitespace>
abbrev pub indented : List ℕ → Bool
indented [] = false
indented (c ∷ t) = one_of intraline c

-- <string element>*, and the characters that 6.7 says it denotes: a character stands for itself, and a line that goes on for nothing.
-- Departures: to the standard a <return> in a string stands for a newline, to the Rust for itself; and a line that goes on ends in
-- <newline> only, a <return> there is error 6
pub data StringElements : List ℕ → List ℕ → Type 0 where
  no_more : StringElements [] []
  itself : {c : ℕ} {t v : List ℕ} → one_of (codes "\"\\\r") c ≡ false → StringElements t v → StringElements (c ∷ t) (c ∷ v)
  mnemonic : {c x : ℕ} {t v : List ℕ} → Mnemonic c x → StringElements t v → StringElements (code "\\" ∷ c ∷ t) (x ∷ v)
  doublequote : {t v : List ℕ} → StringElements t v → StringElements (code "\\" ∷ code "\"" ∷ t) (code "\"" ∷ v)
  backslash : {t v : List ℕ} → StringElements t v → StringElements (code "\\" ∷ code "\\" ∷ t) (code "\\" ∷ v)
  -- 6.7 has it among the escapes, 7.1.1 has not
  vertical : {t v : List ℕ} → StringElements t v → StringElements (code "\\" ∷ code "|" ∷ t) (code "|" ∷ v)
  -- all the whitespace of the next line's start is this element's
  goes_on : (trailing indent : List ℕ) {t v : List ℕ} → Many Intraline trailing → Many Intraline indent → indented t ≡ false → StringElements t v
      → StringElements (code "\\" ∷ trailing ++ (code "\n" ∷ indent ++ t)) v
  hex : (h : List ℕ) {x : ℕ} {t v : List ℕ} → HexScalar h x → StringElements t v → StringElements (code "\\" ∷ code "x" ∷ h ++ (code ";" ∷ t)) (x ∷ v)

pub data StringText : List ℕ → List ℕ → Type 0 where
  quoted : {t v : List ℕ} → StringElements t v → StringText (code "\"" ∷ t ++ codes "\"") v
