-- What a character is where it stands: the tests of the Rust's functions, one class type for each place, in the Rust's order.
-- The readers and the machine go by these classes; where one certain character matters, such as a newline or `{`, they ask for it.
use Rattle.std.specs.Prelude.{ℕ, Bool, true, false, List, eqb, if◌then◌else◌}
use Rattle.laws.specs.Quoted.{code, codes, one_of}
use Rattle.chars.specs.Blank.{is_blank}
use Rattle.numbers.specs.Grammar.{parse_number, numeric}
use Rattle.items.specs.declared.Quotes.{Quotes}
use Rattle.items.specs.declared.Quotes.TheVariants.{Double, Lines}
use Rattle.items.specs.Kinds as kind

-- ---- what a character begins, between items: `Lexer::next`

pub data First : Type 0 where
  semicolon quote comma hash number : First
  single : ℕ → ℕ → First
  vertical backslash wordy : First

-- a sign, a dot or a digit begins a number run
unfoldable pub starts_run : ℕ → Bool
starts_run c = one_of (codes "+-.0123456789") c

unfoldable pub first_of : ℕ → First
first_of c =
    if eqb c (code ";") then semicolon
    else if eqb c (code "\"") then quote
    else if eqb c (code ",") then comma
    else if eqb c (code "#") then hash
    else if eqb c (code "(") then single kind.OpenParen kind.Round
    else if eqb c (code "[") then single kind.OpenParen kind.Square
    else if eqb c (code "{") then single kind.OpenParen kind.Curly
    else if eqb c (code ")") then single kind.CloseParen kind.Round
    else if eqb c (code "]") then single kind.CloseParen kind.Square
    else if eqb c (code "}") then single kind.CloseParen kind.Curly
    else if eqb c (code "'") then single kind.QuoteTick 0
    else if eqb c (code "`") then single kind.QuasiQuote 0
    else if starts_run c then number
    else if eqb c (code "|") then vertical
    else if eqb c (code "\\") then backslash
    else wordy

-- ---- in quotes: `read_string`, and `read_word` in vertical lines

-- what closes the quotes
abbrev pub delim_of : Quotes → ℕ
delim_of Double = code "\""
delim_of Lines = code "|"

pub data InQuotes : Type 0 where
  ends escapes plain : InQuotes

unfoldable pub in_quotes : Quotes → ℕ → InQuotes
in_quotes k c =
    if eqb c (delim_of k) then ends
    else if eqb c (code "\\") then escapes
    else plain

-- ---- after a backslash: `read_string_escape`. A simple escape stands for one character

pub data AfterBackslash : Type 0 where
  simple : ℕ → AfterBackslash
  hex_x hex_u blank newline invalid : AfterBackslash

unfoldable pub after_backslash : ℕ → AfterBackslash
after_backslash c =
    if eqb c (code "\"") then simple (code "\"")
    else if eqb c (code "a") then simple 0x07
    else if eqb c (code "b") then simple 0x08
    else if eqb c (code "\\") then simple (code "\\")
    else if eqb c (code "|") then simple (code "|")
    else if eqb c (code "t") then simple (code "\t")
    else if eqb c (code "n") then simple (code "\n")
    else if eqb c (code "r") then simple (code "\r")
    else if eqb c (code "0") then simple 0x00
    else if eqb c (code "x") then hex_x
    else if eqb c (code "u") then hex_u
    else if eqb c (code " ") then blank
    else if eqb c (code "\t") then blank
    else if eqb c (code "\n") then newline
    else invalid

-- ---- in the digits of a hex escape. 01: `\x` ends at `;`, `\u` also, `\u{` at `}`

pub data InHex : Type 0 where
  closes stops digit : InHex

-- what breaks the digits off before their closer, in either kind of quotes: error 9
unfoldable pub stops_hex : ℕ → Bool
stops_hex c = one_of (codes ";\\\n()[]{}") c

unfoldable pub in_hex : Quotes → ℕ → ℕ → InHex
in_hex k closer c =
    if eqb c closer then closes
    else if stops_hex c then stops
    else if eqb c (delim_of k) then stops
    else digit

-- ---- in a line that goes on. 01: backslash, spaces or tabs, newline, spaces or tabs vanish

pub data InTrim : Type 0 where
  space line solid : InTrim

unfoldable pub in_trim : ℕ → InTrim
in_trim c =
    if eqb c (code " ") then space
    else if eqb c (code "\t") then space
    else if eqb c (code "\n") then line
    else solid

-- ---- in a nested comment: `read_nestable_comment`

pub data InNest : Type 0 where
  bar sharp inside : InNest

unfoldable pub in_nest : ℕ → InNest
in_nest c =
    if eqb c (code "|") then bar
    else if eqb c (code "#") then sharp
    else inside

-- ---- in a word: `read_word`

pub data InWord : Type 0 where
  breaks skips goes : InWord

unfoldable pub breaks_word : ℕ → Bool
breaks_word c = if one_of (codes "([)]{}'\"`;,") c then true else is_blank c

unfoldable pub in_word : ℕ → InWord
in_word c =
    if breaks_word c then breaks
    else if eqb c (code "\\") then skips
    else goes

-- ---- in a number run: `read_number`

pub data InRun : Type 0 where
  stays stops_run leaves : InRun

unfoldable pub stays_run : ℕ → Bool
stays_run c = one_of (codes "+-./@0123456789aAbBcCdDeEfFin") c

-- Which characters end a number run, so that it may be a number: round and square brackets and blanks; in report mode `;` and `"` too,
-- as R7RS's delimiters do (E8). At any other character the run goes on as a word: E16, `12,5`
unfoldable pub ends_run : Bool → ℕ → Bool
ends_run report c =
    if one_of (codes "()[]") c then true
    else if one_of (codes ";\"") c then report
    else is_blank c

-- In report mode a vertical line ends a run too, the bytes `raw` so far, where these are a number (02 (iii), `12|Birch|`). Where they are
-- none the run goes on as in plain mode: `-|a|`
abbrev pub bars_run : Bool → List ℕ → ℕ → Bool
bars_run report raw c = if eqb c (code "|") then (if report then numeric (parse_number raw) else false) else false

unfoldable pub in_run : Bool → List ℕ → ℕ → InRun
in_run report raw c =
    if stays_run c then stays
    else if ends_run report c then stops_run
    else if bars_run report raw c then stops_run
    else leaves

-- ---- after `#`: `Lexer::next`

pub data AfterHash : Type 0 where
  radix opens_nest datum twice angle value : AfterHash

unfoldable pub after_hash : ℕ → AfterHash
after_hash c =
    if one_of (codes "xXdDoObB") c then radix
    else if eqb c (code "|") then opens_nest
    else if eqb c (code ";") then datum
    else if eqb c (code "#") then twice
    else if eqb c (code "<") then angle
    else value

-- ---- in a word that starts with `#`: `read_hash_value`

pub data InHash : Type 0 where
  skips_two tick commas stops_hash stays_hash : InHash

unfoldable pub ends_hash : ℕ → Bool
ends_hash c = if one_of (codes "([)]") c then true else is_blank c

unfoldable pub in_hash : ℕ → InHash
in_hash c =
    if eqb c (code "\\") then skips_two
    else if eqb c (code "'") then tick
    else if eqb c (code "`") then tick
    else if eqb c (code ",") then commas
    else if ends_hash c then stops_hash
    else stays_hash

-- ---- in the delimiter of a here-string: `read_here_string`

pub data InDelim : Type 0 where
  ends_delim returns blank_delim of_delim : InDelim

unfoldable pub in_delim : ℕ → InDelim
in_delim c =
    if eqb c (code "\n") then ends_delim
    else if eqb c (code "\r") then returns
    else if is_blank c then blank_delim
    else of_delim
