-- The definition, part 1: where an item ends, and what it turned out to be. Readers on the characters of a text, shaped like the
-- functions of the Rust, whose names stand in the headings; where R7RS 7.1.1 has a production, its name stands there too.
-- A reader is given the item so far and the characters that are left, and says what it got: the outcome, the item, the rest.
use Rattle.std.specs.Prelude.{ℕ, ◌+◌, ◌-◌, Bool, true, false, List, [], ◌∷◌, ◌++◌, length, get_or, take, drop, eqb, leb, ltb, if◌then◌else◌, Ok, Err, Result}
use Rattle.laws.specs.Quoted.{code}
use Rattle.laws.specs.Texts.{before, begins, same}
use Rattle.chars.specs.Encode.{width, utf8, is_scalar, spelled}
use Rattle.chars.specs.Utf8.{front, Front}
use Rattle.chars.specs.Utf8 as Utf8
use Rattle.digits.specs.Hex.{hex_value, empty, Hex}
use Rattle.items.specs.declared.Quotes.{Quotes}
use Rattle.items.specs.declared.Quotes.TheVariants.{Double, Lines}
use Rattle.items.specs.declared.Outcome.{Outcome}
use Rattle.items.specs.declared.Outcome.TheVariants.{Token, Str, HereStr, Word, Run, Lined, Keyword, Character, Error, ErrorAt}
use Rattle.items.specs.declared.HashKind.{HashKind}
use Rattle.items.specs.declared.HashKind.TheVariants.{Decided, Bracket, Undecided}
use Rattle.items.specs.declared.CharError.{CharError}
use Rattle.items.specs.declared.CharError.TheVariants.{Wrong, WrongAt}
use Rattle.items.specs.Kinds as kind
use Rattle.items.specs.Classes.{first_of, semicolon, quote, comma, hash, number, single, vertical, backslash, wordy}
use Rattle.items.specs.Classes.{in_quotes, ends, escapes, plain, after_backslash, simple, hex_x, hex_u, blank, newline, invalid}
use Rattle.items.specs.Classes.{in_hex, closes, stops, digit, in_trim, space, line, solid, in_nest, bar, sharp, inside}
use Rattle.items.specs.Classes.{in_word, breaks, skips, goes, in_run, stays, stops_run, leaves}
use Rattle.items.specs.Classes.{after_hash, radix, opens_nest, datum, twice, angle, value}
use Rattle.items.specs.Classes.{in_hash, skips_two, tick, commas, stops_hash, stays_hash, in_delim, ends_delim, returns, blank_delim, of_delim}

-- the item so far: its bytes, and the place past them
pub record SoFar : Type 0 where
  pub bytes : List ℕ
  pub at : ℕ

abbrev pub so_far : List ℕ → ℕ → SoFar
so_far b p = record { bytes = b; at = p }

-- the item with the next character: `eat`
abbrev pub eat : SoFar → ℕ → SoFar
eat i c = so_far (i.bytes ++ utf8 c) (i.at + width c)

pub record Read : Type 0 where
  pub what : Outcome
  pub item : SoFar
  pub rest : List ℕ

abbrev pub got : Outcome → SoFar → List ℕ → Read
got o i cs = record { what = o; item = i; rest = cs }

abbrev pub comment : Outcome
comment = Token kind.Comment 0

-- ---- <comment>

-- `read_rest_of_line`: to the newline, which belongs to the comment, or the end
unfoldable pub read_line : SoFar → List ℕ → Read
read_line i [] = got comment i []
read_line i (c ∷ cs) = elim (eqb c (code "\n")) [ true ↦ got comment (eat i c) cs | false ↦ read_line (eat i c) cs ]

-- <nested comment>: `read_nestable_comment`, this many `#|` deep
unfoldable mutual
  pub read_nest : ℕ → SoFar → List ℕ → Read
  read_nest depth i [] = got (Error kind.IncompleteComment 0) i []
  read_nest depth i (c ∷ cs) = elim (in_nest c) [
    | bar ↦ after_bar depth (eat i c) cs
    | sharp ↦ after_sharp depth (eat i c) cs
    | inside ↦ read_nest depth (eat i c) cs
  ]

  pub after_bar : ℕ → SoFar → List ℕ → Read
  after_bar depth i [] = got (Error kind.IncompleteComment 0) i []
  after_bar depth i (c ∷ cs) = elim (in_nest c) [
    | bar ↦ after_bar depth (eat i c) cs
    | sharp ↦ elim (leb depth 1) [ true ↦ got comment (eat i c) cs | false ↦ read_nest (depth - 1) (eat i c) cs ]
    | inside ↦ read_nest depth (eat i c) cs
  ]

  pub after_sharp : ℕ → SoFar → List ℕ → Read
  after_sharp depth i [] = got (Error kind.IncompleteComment 0) i []
  after_sharp depth i (c ∷ cs) = elim (in_nest c) [
    | bar ↦ read_nest (depth + 1) (eat i c) cs
    | sharp ↦ after_sharp depth (eat i c) cs
    | inside ↦ read_nest depth (eat i c) cs
  ]

-- ---- <string>, and <identifier> in vertical lines: `read_string`, `read_word`

-- whether the first byte, and the last byte, of an item is b
abbrev pub first_is : ℕ → List ℕ → Bool
first_is b raw = eqb (get_or raw 0 0) b

abbrev pub last_is : ℕ → List ℕ → Bool
last_is b raw = eqb (get_or raw (length raw - 1) 0) b

-- What a word with a vertical line where `read_word` began is, at its end: split after its plus; an identifier if its first and last
-- bytes are vertical lines, be the last one an escape's (E9); else error 3 (E13)
unfoldable pub lined_of : List ℕ → Outcome
lined_of raw =
    if leb (length raw) 1 then Error kind.IncompleteIdentifier 0
    else if first_is (code "+") raw then Word
    else if first_is (code "|") raw then (if last_is (code "|") raw then Lined else Error kind.IncompleteIdentifier 0)
    else Error kind.IncompleteIdentifier 0

-- the quotes are closed
abbrev pub closed : Quotes → List ℕ → Outcome
closed Double raw = Str
closed Lines raw = lined_of raw

-- the text ends inside the quotes
abbrev pub unclosed : Quotes → List ℕ → Outcome
unclosed Double raw = Error kind.IncompleteString 0
unclosed Lines raw = lined_of raw

-- the text ends inside an escape
abbrev pub cut : Quotes → Outcome
cut Double = Error kind.IncompleteString 0
cut Lines = Error kind.IncompleteIdentifier 0

-- the character that hex digits stand for: `char::from_u32` of their value (E10), error 11 and the failing place where they have none
unfoldable pub scalar_of : Hex → Result ℕ CharError
scalar_of (Ok v) = if is_scalar v then Ok v else Err (Wrong kind.InvalidHexCodePoint v)
scalar_of (Err w) = Err (WrongAt kind.InvalidHexEscapeLiteral w.detail w.place)

-- how many bytes the character has that stands at the front of some bytes
abbrev pub front_width : Front → ℕ
front_width (Utf8.char c n) = n
front_width (Utf8.bad n) = 0
front_width Utf8.cut = 0
front_width Utf8.none = 0

-- The place past what fails at the place `at`, where the bytes `rest` stand: past one character, but where digits should stand (detail
-- `empty`) nothing does, and the place is empty
unfoldable pub past_failing : ℕ → ℕ → List ℕ → ℕ
past_failing d at rest = if eqb d empty then at else at + front_width (front rest)

-- The error of an escape from `from` to `to` that fails at the place `at`, where the bytes `rest` stand. In plain mode it sets the
-- whole escape, in report mode the character that fails (02 (vii))
abbrev pub failing : Bool → ℕ → ℕ → ℕ → ℕ → ℕ → List ℕ → Outcome
failing report e d from to at rest = if report then ErrorAt e d at (past_failing d at rest) else ErrorAt e d from to

-- the same of digits that fail where of the item so far the bytes `rest` are left
abbrev pub failing_in : Bool → ℕ → ℕ → ℕ → ℕ → List ℕ → SoFar → Outcome
failing_in report e d from to rest i = failing report e d from to (i.at - length rest) rest

-- In quotes; after a backslash; after `\u`; in hex digits; in a line that goes on, its newline seen or not.
-- `from` is the place of the escape's backslash, `n` how many bytes of the item stand before the digits (E11: one may be a plus)
unfoldable mutual
  pub read_quoted : Bool → Quotes → SoFar → List ℕ → Read
  read_quoted report k i [] = got (unclosed k i.bytes) i []
  read_quoted report k i (c ∷ cs) = elim (in_quotes k c) [
    | ends ↦ got (closed k (eat i c).bytes) (eat i c) cs
    | escapes ↦ read_escape report k i.at (eat i c) cs
    | plain ↦ read_quoted report k (eat i c) cs
  ]

  -- <string element>, <symbol element>: `read_string_escape`
  pub read_escape : Bool → Quotes → ℕ → SoFar → List ℕ → Read
  read_escape report k from i [] = got (cut k) i []
  read_escape report k from i (c ∷ cs) = elim (after_backslash c) [
    | simple x ↦ read_quoted report k (eat i c) cs
    | hex_x ↦ read_hex report k (code ";") from (length (eat i c).bytes) (eat i c) cs
    | hex_u ↦ read_brace report k from (eat i c) cs
    | blank ↦ read_trim report k false (eat i c) cs
    | newline ↦ read_trim report k true (eat i c) cs
    | invalid ↦ got (ErrorAt kind.InvalidStringEscape c from (eat i c).at) i (c ∷ cs)
  ]

  pub read_brace : Bool → Quotes → ℕ → SoFar → List ℕ → Read
  read_brace report k from i [] = got (cut k) i []
  read_brace report k from i (c ∷ cs) = elim (eqb c (code "{")) [
    | true ↦ read_hex report k (code "}") from (length (eat i c).bytes) (eat i c) cs
    | false ↦ elim (in_hex k (code ";") c) [
      | closes ↦ got (failing report kind.InvalidHexEscapeLiteral empty from (eat i c).at i.at []) (eat i c) cs
      | stops ↦ got (ErrorAt kind.UnclosedHexEscape (code ";") from i.at) (eat i c) cs
      | digit ↦ read_hex report k (code ";") from (length i.bytes) (eat i c) cs
    ]
  ]

  -- <hex scalar value>. What breaks it off belongs to the extent and not to the place
  pub read_hex : Bool → Quotes → ℕ → ℕ → ℕ → SoFar → List ℕ → Read
  read_hex report k closer from n i [] = got (cut k) i []
  read_hex report k closer from n i (c ∷ cs) = elim (in_hex k closer c) [
    | closes ↦ elim (scalar_of (hex_value (drop n i.bytes))) [
      | Ok v ↦ read_quoted report k (eat i c) cs
      | Err (Wrong e d) ↦ got (ErrorAt e d from (eat i c).at) (eat i c) cs
      | Err (WrongAt e d p) ↦ got (failing_in report e d from (eat i c).at (drop p (drop n i.bytes)) i) (eat i c) cs
    ]
    | stops ↦ got (ErrorAt kind.UnclosedHexEscape closer from i.at) (eat i c) cs
    | digit ↦ read_hex report k closer from n (eat i c) cs
  ]

  pub read_trim : Bool → Quotes → Bool → SoFar → List ℕ → Read
  read_trim report k seen i [] = got (cut k) i []
  read_trim report k seen i (c ∷ cs) = elim (in_trim c) [
    | space ↦ read_trim report k seen (eat i c) cs
    | line ↦ elim seen [ true ↦ read_quoted report k (eat i c) cs | false ↦ read_trim report k true (eat i c) cs ]
    | solid ↦ elim seen [
      | true ↦ elim (in_quotes k c) [
        | ends ↦ got (closed k (eat i c).bytes) (eat i c) cs
        | escapes ↦ read_escape report k i.at (eat i c) cs
        | plain ↦ read_quoted report k (eat i c) cs
      ]
      | false ↦ got (ErrorAt kind.InvalidWhitespace 0 i.at (eat i c).at) i (c ∷ cs)
    ]
  ]

-- ---- <identifier>: `read_word`. A backslash takes the next character with it, whatever it is

unfoldable mutual
  pub read_word_on : SoFar → List ℕ → Read
  read_word_on i [] = got Word i []
  read_word_on i (c ∷ cs) = elim (in_word c) [
    | breaks ↦ got Word i (c ∷ cs)
    | skips ↦ word_skip (eat i c) cs
    | goes ↦ read_word_on (eat i c) cs
  ]

  pub word_skip : SoFar → List ℕ → Read
  word_skip i [] = got Word i []
  word_skip i (c ∷ cs) = read_word_on (eat i c) cs

-- where `read_word` begins, a vertical line makes the rest an identifier in vertical lines
unfoldable pub read_word : Bool → SoFar → List ℕ → Read
read_word report i [] = got Word i []
read_word report i (c ∷ cs) = elim (eqb c (code "|")) [ true ↦ read_quoted report Lines (eat i c) cs | false ↦ read_word_on i (c ∷ cs) ]

-- ---- <number>: `read_number`. Whether the run is a number is asked of its bytes

unfoldable pub read_run : Bool → SoFar → List ℕ → Read
read_run report i [] = got Run i []
read_run report i (c ∷ cs) = elim (in_run report i.bytes c) [
  | stays ↦ read_run report (eat i c) cs
  | stops_run ↦ got Run i (c ∷ cs)
  | leaves ↦ read_word report i (c ∷ cs)
]

-- ---- words that start with `#`: `read_hash_value`

-- <boolean>
unfoldable pub bool_kind : List ℕ → HashKind
bool_kind raw =
    if same raw (spelled "#true") then Decided (Token kind.BooleanLiteral 1)
    else if same raw (spelled "#t") then Decided (Token kind.BooleanLiteral 1)
    else if same raw (spelled "#false") then Decided (Token kind.BooleanLiteral 0)
    else if same raw (spelled "#f") then Decided (Token kind.BooleanLiteral 0)
    else Undecided

-- the four marks that quote syntax
unfoldable pub quote_kind : List ℕ → HashKind
quote_kind raw =
    if same raw (spelled "#'") then Decided (Token kind.QuoteSyntax 0)
    else if same raw (spelled "#`") then Decided (Token kind.QuasiQuoteSyntax 0)
    else if same raw (spelled "#,") then Decided (Token kind.UnquoteSyntax 0)
    else if same raw (spelled "#,@") then Decided (Token kind.UnquoteSpliceSyntax 0)
    else Undecided

-- keywords; <character>, with error 7 where nothing follows (E4); `#(` and `#u8(`
unfoldable pub form_kind : List ℕ → HashKind
form_kind raw =
    if begins (spelled "#:") raw then Decided Keyword
    else if begins (spelled "#\\") raw then (if leb (length raw) 2 then Decided (Error kind.InvalidCharacter 0) else Decided Character)
    else if same raw (spelled "#") then Bracket kind.Vector
    else if same raw (spelled "#u8") then Bracket kind.Bytes
    else Undecided

abbrev pub or_else : HashKind → HashKind → HashKind
or_else (Decided o) k = Decided o
or_else (Bracket d) k = Bracket d
or_else Undecided k = k

unfoldable pub hash_kind : List ℕ → HashKind
hash_kind raw = or_else (bool_kind raw) (or_else (quote_kind raw) (form_kind raw))

unfoldable pub hash_bracket : Bool → ℕ → SoFar → List ℕ → Read
hash_bracket report d i [] = got Word i []
hash_bracket report d i (c ∷ cs) = elim (eqb c (code "(")) [ true ↦ got (Token kind.OpenParen d) (eat i c) cs | false ↦ read_word report i (c ∷ cs) ]

-- at the end of the run: what it is by its bytes, else a word that may go on
unfoldable pub hash_at : Bool → SoFar → List ℕ → Read
hash_at report i cs = elim (hash_kind i.bytes) [
  | Decided o ↦ got o i cs
  | Bracket d ↦ hash_bracket report d i cs
  | Undecided ↦ read_word report i cs
]

-- after a comma, an at sign belongs to the run
unfoldable pub hash_comma : Bool → SoFar → List ℕ → Read
hash_comma report i [] = hash_at report i []
hash_comma report i (c ∷ cs) = elim (eqb c (code "@")) [ true ↦ hash_at report (eat i c) cs | false ↦ hash_at report i (c ∷ cs) ]

unfoldable mutual
  pub hash_on : Bool → SoFar → List ℕ → Read
  hash_on report i [] = hash_at report i []
  hash_on report i (c ∷ cs) = elim (in_hash c) [
    | skips_two ↦ hash_skip report (eat i c) cs
    | tick ↦ hash_at report (eat i c) cs
    | commas ↦ hash_comma report (eat i c) cs
    | stops_hash ↦ hash_at report i (c ∷ cs)
    | stays_hash ↦ hash_on report (eat i c) cs
  ]

  pub hash_skip : Bool → SoFar → List ℕ → Read
  hash_skip report i [] = hash_at report i []
  hash_skip report i (c ∷ cs) = hash_on report (eat i c) cs

-- ---- here-strings: `read_here_string`. The delimiter is what stands after `#<<` on its line, carriage returns left out; the body
-- follows the line, has at least one character, and ends as soon as it ends with the delimiter (E12)

-- without carriage returns
unfoldable pub unreturned : List ℕ → List ℕ
unreturned [] = []
unreturned (c ∷ cs) = let more = unreturned cs in if eqb c (code "\r") then more else c ∷ more

-- the line that a text starts with, and what follows its newline
abbrev pub line_of : List ℕ → List ℕ
line_of l = unreturned (take (before (code "\n") l) l)

abbrev pub after_line : List ℕ → List ℕ
after_line l = drop (before (code "\n") l + 1) l

unfoldable pub ends_with : List ℕ → List ℕ → Bool
ends_with d body = if ltb (length body) (length d) then false else begins d (drop (length body - length d) body)

-- the bytes after `#<<`
abbrev pub here_inside : List ℕ → List ℕ
here_inside raw = drop 3 raw

unfoldable pub here_ends : List ℕ → Bool
here_ends raw = ends_with (line_of (here_inside raw)) (after_line (here_inside raw))

unfoldable pub here_body : SoFar → List ℕ → Read
here_body i [] = got (Error kind.IncompleteString 0) i []
here_body i (c ∷ cs) = elim (here_ends (eat i c).bytes) [ true ↦ got HereStr (eat i c) cs | false ↦ here_body (eat i c) cs ]

unfoldable pub here_delim : SoFar → List ℕ → Read
here_delim i [] = got (Error kind.IncompleteString 0) i []
here_delim i (c ∷ cs) = elim (in_delim c) [
  | ends_delim ↦ here_body (eat i c) cs
  | returns ↦ here_delim (eat i c) cs
  | blank_delim ↦ got (Error kind.UnexpectedChar c) (eat i c) cs
  | of_delim ↦ here_delim (eat i c) cs
]

-- ---- `Lexer::next`

unfoldable pub after_angle : Bool → SoFar → List ℕ → Read
after_angle report i [] = got Word i []
after_angle report i (c ∷ cs) = elim (eqb c (code "<")) [ true ↦ here_delim (eat i c) cs | false ↦ read_word report i (c ∷ cs) ]

unfoldable pub read_hash : Bool → SoFar → List ℕ → Read
read_hash report i [] = hash_at report i []
read_hash report i (c ∷ cs) = elim (after_hash c) [
  | radix ↦ read_run report (eat i c) cs
  | opens_nest ↦ read_nest 1 (eat i c) cs
  | datum ↦ got (Token kind.DatumComment 0) (eat i c) cs
  | twice ↦ got (Error kind.UnexpectedChar c) (eat i c) cs
  | angle ↦ after_angle report (eat i c) cs
  | value ↦ hash_on report i (c ∷ cs)
]

-- `,` is not known before the next character: `,@` is another
unfoldable pub read_comma : SoFar → List ℕ → Read
read_comma i [] = got (Token kind.Unquote 0) i []
read_comma i (c ∷ cs) = elim (eqb c (code "@")) [
  | true ↦ got (Token kind.UnquoteSplice 0) (eat i c) cs
  | false ↦ got (Token kind.Unquote 0) i (c ∷ cs)
]

-- the item that starts at the place `at` with c, which is no blank
unfoldable pub read_item : Bool → ℕ → ℕ → List ℕ → Read
read_item report at c cs =
    let i : SoFar = eat (so_far [] at) c in
    elim (first_of c) [
      | semicolon ↦ read_line i cs
      | quote ↦ read_quoted report Double i cs
      | comma ↦ read_comma i cs
      | hash ↦ read_hash report i cs
      | number ↦ read_run report i cs
      | single k d ↦ got (Token k d) i cs
      | vertical ↦ read_quoted report Lines i cs
      | backslash ↦ word_skip i cs
      | wordy ↦ read_word_on i cs
    ]
