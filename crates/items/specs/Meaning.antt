-- The definition, part 2: kind, detail and text of an item, by its outcome and its bytes. Document 01, "An item".
use Rattle.std.specs.Prelude.{ℕ, suc, ◌+◌, ◌-◌, Bool, true, false, not, ◌&&◌, ◌||◌, List, [], ◌∷◌, ◌++◌, map, length, get_or, take, drop, eqb, leb, ltb, if◌then◌else◌, Ok, Err, Result}
use Prim.Native.String.{String}
use Rattle.laws.specs.Quoted.{code, one_of}
use Rattle.laws.specs.Texts.{span, same}
use Rattle.chars.specs.Encode.{encode, spelled}
use Rattle.chars.specs.Utf8.{front, Front}
use Rattle.chars.specs.Utf8 as Utf8
use Rattle.digits.specs.Hex.{hex_value}
use Rattle.numbers.specs.Grammar.{parse_number, Parsed}
use Rattle.numbers.specs.declared.ParseError.TheVariants as parsed
use Rattle.items.specs.declared.Quotes.{Quotes}
use Rattle.items.specs.declared.Quotes.TheVariants.{Double, Lines}
use Rattle.items.specs.declared.Outcome.{Outcome}
use Rattle.items.specs.declared.Outcome.TheVariants.{Token, Str, HereStr, Word, Run, Lined, Keyword, Character, Error, ErrorAt}
use Rattle.items.specs.declared.CharError.{CharError}
use Rattle.items.specs.declared.CharError.TheVariants.{Wrong, WrongAt}
use Rattle.items.specs.Kinds as kind
use Rattle.items.specs.Classes.{in_quotes, ends, escapes, plain, after_backslash, simple, hex_x, hex_u, blank, newline, invalid}
use Rattle.items.specs.Classes.{in_hex, closes, stops, digit, in_trim, space, line, solid}
use Rattle.items.specs.Readers.{first_is, last_is, scalar_of, line_of, after_line, here_inside}

-- An item has no text, a part of the source from a place to a place, or decoded bytes, which go into the text memory
pub data Text : Type 0 where
  none : Text
  source : ℕ → ℕ → Text
  decoded : List ℕ → Text

pub record Meaning : Type 0 where
  pub kind : ℕ
  pub detail : ℕ
  pub text : Text

abbrev pub means : ℕ → ℕ → Text → Meaning
means k d t = record { kind = k; detail = d; text = t }

abbrev pub one : ℕ → ℕ → Text → List Meaning
one k d t = means k d t ∷ []

-- ---- tables of texts

pub record Row : Type 0 where
  pub text : List ℕ
  pub number : ℕ

abbrev pub row : String → ℕ → Row
row s n = record { text = spelled s; number = n }

-- the number of the row that has this text, else n
unfoldable pub lookup : List Row → List ℕ → ℕ → ℕ
lookup [] raw n = n
lookup (r ∷ rs) raw n = let more = lookup rs raw n in if same raw r.text then r.number else more

-- ---- words: the `match` of `read_word`

unfoldable pub words : List Row
words =
    row "." kind.Dot
    ∷ row "if" kind.If
    ∷ row "let" kind.Let
    ∷ row "define" kind.Define
    ∷ row "defn" kind.Define
    ∷ row "#%define" kind.Define
    ∷ row "%plain-let" kind.TestLet
    ∷ row "return!" kind.Return
    ∷ row "begin" kind.Begin
    ∷ row "lambda" kind.Lambda
    ∷ row "fn" kind.Lambda
    ∷ row "#%plain-lambda" kind.Lambda
    ∷ row "λ" kind.Lambda
    ∷ row "quote" kind.Quote
    ∷ row "syntax-rules" kind.SyntaxRules
    ∷ row "define-syntax" kind.DefineSyntax
    ∷ row "..." kind.Ellipses
    ∷ row "set!" kind.Set
    ∷ row "require" kind.Require
    ∷ []

unfoldable pub word_kind : List ℕ → ℕ
word_kind raw = lookup words raw kind.Identifier

-- a word that begins with `+` and goes on is two identifiers of one extent: `+` and the rest (E2)
unfoldable pub word_means : ℕ → ℕ → List ℕ → List Meaning
word_means s e raw =
    if eqb (word_kind raw) kind.Identifier
    then
    (if first_is (code "+") raw && ltb 1 (length raw)
    then means kind.Identifier 0 (source s (s + 1)) ∷ means kind.Identifier 0 (source (s + 1) e) ∷ []
    else one kind.Identifier 0 (source s e))
    else one (word_kind raw) 0 none

-- a number run is a Number; a word where it is no number (E6); or error 8 (E5)
unfoldable pub run_means : Parsed → ℕ → ℕ → List ℕ → List Meaning
run_means (Ok p) s e raw = one kind.Number 0 none
run_means (Err parsed.NoNumber) s e raw = word_means s e raw
run_means (Err parsed.ZeroDenominator) s e raw = one (kind.first_error + kind.ZeroDenominator) 0 none

-- ---- strings, and identifiers wholly in vertical lines

-- whether there is an escape
unfoldable pub escaped : List ℕ → Bool
escaped [] = false
escaped (c ∷ cs) = let more = escaped cs in if eqb c (code "\\") then true else more

-- The text between quotes, from after the opening one to the closing one or the end, each escape as what it stands for. It goes the
-- way of `read_quoted`, on bytes: an escape is ASCII. `ds` are the hex digits so far. Where that reads an error, the text is of no use
unfoldable mutual
  pub unescape : Quotes → List ℕ → List ℕ
  unescape k [] = []
  unescape k (c ∷ cs) = elim (in_quotes k c) [ ends ↦ [] | escapes ↦ unescape_next k cs | plain ↦ c ∷ unescape k cs ]

  pub unescape_next : Quotes → List ℕ → List ℕ
  unescape_next k [] = []
  unescape_next k (c ∷ cs) = elim (after_backslash c) [
    | simple x ↦ x ∷ unescape k cs
    | hex_x ↦ unescape_hex k (code ";") [] cs
    | hex_u ↦ unescape_brace k cs
    | blank ↦ unescape_trim k false cs
    | newline ↦ unescape_trim k true cs
    | invalid ↦ []
  ]

  pub unescape_brace : Quotes → List ℕ → List ℕ
  unescape_brace k [] = []
  unescape_brace k (c ∷ cs) = elim (eqb c (code "{")) [
    | true ↦ unescape_hex k (code "}") [] cs
    | false ↦ elim (in_hex k (code ";") c) [ closes ↦ [] | stops ↦ [] | digit ↦ unescape_hex k (code ";") (c ∷ []) cs ]
  ]

  pub unescape_hex : Quotes → ℕ → List ℕ → List ℕ → List ℕ
  unescape_hex k closer ds [] = []
  unescape_hex k closer ds (c ∷ cs) = elim (in_hex k closer c) [
    | closes ↦ elim (scalar_of (hex_value ds)) [ Ok v ↦ encode v ++ unescape k cs | Err (Wrong e d) ↦ [] | Err (WrongAt e d p) ↦ [] ]
    | stops ↦ []
    | digit ↦ unescape_hex k closer (ds ++ (c ∷ [])) cs
  ]

  pub unescape_trim : Quotes → Bool → List ℕ → List ℕ
  unescape_trim k seen [] = []
  unescape_trim k seen (c ∷ cs) = elim (in_trim c) [
    | space ↦ unescape_trim k seen cs
    | line ↦ elim seen [ true ↦ c ∷ unescape k cs | false ↦ unescape_trim k true cs ]
    | solid ↦ elim (in_quotes k c) [ ends ↦ [] | escapes ↦ unescape_next k cs | plain ↦ c ∷ unescape k cs ]
  ]

-- 01: the text "lies in the text memory for a string with an escape, and for an identifier wholly in vertical lines with an escape and
-- a non-empty decoded text; else in the source" (E14). s and e are the extent, raw its bytes
unfoldable pub string_text : ℕ → ℕ → List ℕ → Text
string_text s e raw = if escaped raw then decoded (unescape Double (drop 1 raw)) else source (s + 1) (e - 1)

unfoldable pub lined_text : ℕ → ℕ → List ℕ → Text
lined_text s e raw =
    let t : List ℕ = unescape Lines (drop 1 raw) in
    if escaped raw && ltb 0 (length t) then decoded t else source (s + 1) (e - 1)

-- a here-string's text is its body without the delimiter, never decoded
unfoldable pub here_text : ℕ → ℕ → List ℕ → Text
here_text s e raw = source (e - length (after_line (here_inside raw))) (e - length (line_of (here_inside raw)))

-- ---- <character>: `parse_char`, of the bytes after `#\`

-- ASCII's lower case
abbrev pub lower : ℕ → ℕ
lower c = if leb (code "A") c && leb c (code "Z") then c + 32 else c

unfoldable pub char_names : List Row
char_names =
    row "alarm" 0x07
    ∷ row "backspace" 0x08
    ∷ row "delete" 0x7F
    ∷ row "escape" 0x1B
    ∷ row "newline" 0x0A
    ∷ row "null" 0x00
    ∷ row "return" 0x0D
    ∷ row "space" 0x20
    ∷ row "tab" 0x09
    ∷ []

-- past every name's code
abbrev pub unnamed : ℕ
unnamed = 0x80

-- the four that end or begin an item elsewhere and are taken into a name
unfoldable pub is_delimiter : ℕ → Bool
is_delimiter c = one_of (code ";" ∷ code "\"" ∷ code "'" ∷ code "," ∷ []) c

-- how many bytes stand before the first delimiter, or the end
abbrev pub before_delimiter : List ℕ → ℕ
before_delimiter t = span (λ c. not (is_delimiter c)) t

-- Bytes that name nothing: error 10, but in report mode 13 and the place of the first delimiter after the first character, if there is
-- one (02 (vii)). The bytes of a character after its first are no delimiters
unfoldable pub nameless : Bool → List ℕ → Result ℕ CharError
nameless report t =
    let p : ℕ = suc (before_delimiter (drop 1 t)) in
    if report && ltb p (length t) then Err (WrongAt kind.InvalidCharDelimiter 0 p) else Err (Wrong kind.InvalidCharName 0)

-- bytes that are one character and nothing else
abbrev pub only_one : Bool → Front → List ℕ → Result ℕ CharError
only_one report (Utf8.char c n) t = if eqb n (length t) then Ok c else nameless report t
only_one report (Utf8.bad n) t = nameless report t
only_one report Utf8.cut t = nameless report t
only_one report Utf8.none t = nameless report t

-- the value of a part that starts after n bytes: its failing place is counted from the start of the whole
abbrev pub later : ℕ → Result ℕ CharError → Result ℕ CharError
later n (Ok c) = Ok c
later n (Err (Wrong e d)) = Err (Wrong e d)
later n (Err (WrongAt e d p)) = Err (WrongAt e d (n + p))

-- `x` or `u` and digits; after `u{` the last byte must be `}`, else error 9
unfoldable pub hex_named : List ℕ → Result ℕ CharError
hex_named t =
    if first_is (code "u") t && eqb (get_or t 1 0) (code "{")
    then (if last_is (code "}") t then later 2 (scalar_of (hex_value (take (length t - 3) (drop 2 t)))) else Err (Wrong kind.UnclosedHexEscape (code "}")))
    else later 1 (scalar_of (hex_value (drop 1 t)))

-- `x` and `u` alone are these letters
unfoldable pub spelled_out : Bool → List ℕ → Result ℕ CharError
spelled_out report t =
    if (first_is (code "u") t || first_is (code "x") t) && ltb 1 (length t)
    then hex_named t
    else only_one report (front t) t

-- a name goes before all else, without regard to ASCII case
unfoldable pub character_of : Bool → List ℕ → Result ℕ CharError
character_of report t = let n : ℕ = lookup char_names (map lower t) unnamed in if eqb n unnamed then spelled_out report t else Ok n

-- the bytes after `#\`
abbrev pub char_inside : List ℕ → List ℕ
char_inside raw = drop 2 raw

abbrev pub character_means : Result ℕ CharError → List Meaning
character_means (Ok c) = one kind.CharacterLiteral c none
character_means (Err (Wrong e d)) = one (kind.first_error + e) d none
character_means (Err (WrongAt e d p)) = one (kind.first_error + e) d none

-- ---- every outcome

-- the items of one extent, from s to e, whose bytes are raw: two of a word that begins with `+`, else one
abbrev pub meaning_of : Bool → Outcome → ℕ → ℕ → List ℕ → List Meaning
meaning_of report (Token k d) s e raw = one k d none
meaning_of report Str s e raw = one kind.StringLiteral 0 (string_text s e raw)
meaning_of report HereStr s e raw = one kind.StringLiteral 0 (here_text s e raw)
meaning_of report Word s e raw = word_means s e raw
meaning_of report Run s e raw = run_means (parse_number raw) s e raw
meaning_of report Lined s e raw = one kind.Identifier 0 (lined_text s e raw)
meaning_of report Keyword s e raw = one kind.Keyword 0 (source s e)
meaning_of report Character s e raw = character_means (character_of report (char_inside raw))
meaning_of report (Error n d) s e raw = one (kind.first_error + n) d none
meaning_of report (ErrorAt n d a b) s e raw = one (kind.first_error + n) d none
