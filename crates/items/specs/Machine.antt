-- The machine: what a character does in a phase, what the end of the text makes of a phase, and the scan of one item. A means of
-- proof. The piece calls' contracts cite it; of states that calls made, pieces' `call_means` says the same without it. `i` is the item so
-- far, which the code has as a part of the source or in the piece state.
use Rattle.std.specs.Prelude.{ℕ, ◌+◌, ◌-◌, Bool, List, [], ◌∷◌, length, drop, eqb, leb, if◌then◌else◌, Err, Ok, Result}
use Rattle.laws.specs.Quoted.{code}
use Rattle.digits.specs.Hex.{hex_value, empty}
use Rattle.items.specs.declared.Quotes.{Quotes}
use Rattle.items.specs.declared.Quotes.TheVariants.{Double, Lines}
use Rattle.items.specs.declared.Outcome.{Outcome}
use Rattle.items.specs.declared.Outcome.TheVariants.{Token, HereStr, Word, Run, Error, ErrorAt}
use Rattle.items.specs.declared.Phase.{Phase}
use Rattle.items.specs.declared.Phase.TheVariants as ph
use Rattle.items.specs.declared.Next.{Next}
use Rattle.items.specs.declared.Next.TheVariants.{Eat, Stop}
use Rattle.items.specs.declared.HashKind.{HashKind}
use Rattle.items.specs.declared.HashKind.TheVariants.{Decided, Bracket, Undecided}
use Rattle.items.specs.declared.CharError.{CharError}
use Rattle.items.specs.declared.CharError.TheVariants.{Wrong, WrongAt}
use Rattle.items.specs.Kinds as kind
use Rattle.items.specs.Classes.{First, semicolon, quote, comma, hash, number, single, vertical, backslash, wordy}
use Rattle.items.specs.Classes.{InQuotes, in_quotes, ends, escapes, plain, AfterBackslash, after_backslash, simple, hex_x, hex_u, blank, newline, invalid}
use Rattle.items.specs.Classes.{InHex, in_hex, closes, stops, digit, InTrim, in_trim, space, line, solid, InNest, in_nest, bar, sharp, inside}
use Rattle.items.specs.Classes.{InWord, in_word, breaks, skips, goes, InRun, in_run, stays, stops_run, leaves}
use Rattle.items.specs.Classes.{AfterHash, after_hash, radix, opens_nest, datum, twice, angle, value}
use Rattle.items.specs.Classes.{InHash, in_hash, skips_two, tick, commas, stops_hash, stays_hash, InDelim, in_delim, ends_delim, returns, blank_delim, of_delim}
use Rattle.items.specs.Readers.{SoFar, eat, Read, got, comment, closed, unclosed, cut, scalar_of, failing, failing_in, hash_kind, here_ends}

-- ---- comments

abbrev pub on_line : ℕ → Next
on_line c = if eqb c (code "\n") then Eat (ph.Done comment) else Eat ph.InLine

abbrev pub on_nest : InNest → ℕ → Next
on_nest bar d = Eat (ph.NestBar d)
on_nest sharp d = Eat (ph.NestSharp d)
on_nest inside d = Eat (ph.Nest d)

abbrev pub on_bar : InNest → ℕ → Next
on_bar bar d = Eat (ph.NestBar d)
on_bar sharp d = if leb d 1 then Eat (ph.Done comment) else Eat (ph.Nest (d - 1))
on_bar inside d = Eat (ph.Nest d)

abbrev pub on_sharp : InNest → ℕ → Next
on_sharp bar d = Eat (ph.Nest (d + 1))
on_sharp sharp d = Eat (ph.NestSharp d)
on_sharp inside d = Eat (ph.Nest d)

-- ---- quotes

abbrev pub on_quoted : InQuotes → Quotes → SoFar → ℕ → Next
on_quoted ends k i c = Eat (ph.Closed k)
on_quoted escapes k i c = Eat (ph.Escape k i.at)
on_quoted plain k i c = Eat (ph.Quoted k)

abbrev pub on_escape : AfterBackslash → Quotes → ℕ → SoFar → ℕ → Next
on_escape (simple x) k from i c = Eat (ph.Quoted k)
on_escape hex_x k from i c = Eat (ph.Hex k (code ";") from (length (eat i c).bytes))
on_escape hex_u k from i c = Eat (ph.Brace k from)
on_escape blank k from i c = Eat (ph.TrimBefore k)
on_escape newline k from i c = Eat (ph.TrimAfter k)
on_escape invalid k from i c = Stop (ErrorAt kind.InvalidStringEscape c from (eat i c).at)

-- `\u;` has no digits
abbrev pub on_brace : Bool → InHex → Quotes → ℕ → SoFar → ℕ → Next
on_brace report closes k from i c = Eat (ph.Done (failing report kind.InvalidHexEscapeLiteral empty from (eat i c).at i.at []))
on_brace report stops k from i c = Eat (ph.Done (ErrorAt kind.UnclosedHexEscape (code ";") from i.at))
on_brace report digit k from i c = Eat (ph.Hex k (code ";") from (length i.bytes))

-- the digits, before which n bytes of the item stand, are closed, and the escape goes from `from` to `to`
abbrev pub close_hex : Bool → Result ℕ CharError → Quotes → ℕ → ℕ → ℕ → SoFar → Next
close_hex report (Ok v) k from n to i = Eat (ph.Quoted k)
close_hex report (Err (Wrong e d)) k from n to i = Eat (ph.Done (ErrorAt e d from to))
close_hex report (Err (WrongAt e d p)) k from n to i = Eat (ph.Done (failing_in report e d from to (drop p (drop n i.bytes)) i))

abbrev pub on_hex : Bool → InHex → Quotes → ℕ → ℕ → ℕ → SoFar → ℕ → Next
on_hex report closes k closer from n i c = close_hex report (scalar_of (hex_value (drop n i.bytes))) k from n (eat i c).at i
on_hex report stops k closer from n i c = Eat (ph.Done (ErrorAt kind.UnclosedHexEscape closer from i.at))
on_hex report digit k closer from n i c = Eat (ph.Hex k closer from n)

abbrev pub on_trim_before : InTrim → Quotes → SoFar → ℕ → Next
on_trim_before space k i c = Eat (ph.TrimBefore k)
on_trim_before line k i c = Eat (ph.TrimAfter k)
on_trim_before solid k i c = Stop (ErrorAt kind.InvalidWhitespace 0 i.at (eat i c).at)

abbrev pub on_trim_after : InTrim → Quotes → SoFar → ℕ → Next
on_trim_after space k i c = Eat (ph.TrimAfter k)
on_trim_after line k i c = Eat (ph.Quoted k)
on_trim_after solid k i c = on_quoted (in_quotes k c) k i c

-- ---- words and number runs

abbrev pub on_word : InWord → Next
on_word breaks = Stop Word
on_word skips = Eat ph.WordEscape
on_word goes = Eat ph.InWord

-- where `read_word` begins
abbrev pub enter_word : ℕ → Next
enter_word c = if eqb c (code "|") then Eat (ph.Quoted Lines) else on_word (in_word c)

abbrev pub on_run : InRun → ℕ → Next
on_run stays c = Eat ph.InRun
on_run stops_run c = Stop Run
on_run leaves c = enter_word c

-- ---- words that start with `#`

abbrev pub hash_then : HashKind → ℕ → Next
hash_then (Decided o) c = Stop o
hash_then (Bracket d) c = if eqb c (code "(") then Eat (ph.Done (Token kind.OpenParen d)) else enter_word c
hash_then Undecided c = enter_word c

abbrev pub hash_last : HashKind → Outcome
hash_last (Decided o) = o
hash_last (Bracket d) = Word
hash_last Undecided = Word

abbrev pub on_hash : InHash → List ℕ → ℕ → Next
on_hash skips_two raw c = Eat ph.HashEscape
on_hash tick raw c = Eat ph.HashTick
on_hash commas raw c = Eat ph.HashComma
on_hash stops_hash raw c = hash_then (hash_kind raw) c
on_hash stays_hash raw c = Eat ph.InHash

abbrev pub on_after_hash : AfterHash → List ℕ → ℕ → Next
on_after_hash radix raw c = Eat ph.InRun
on_after_hash opens_nest raw c = Eat (ph.Nest 1)
on_after_hash datum raw c = Eat (ph.Done (Token kind.DatumComment 0))
on_after_hash twice raw c = Eat (ph.Done (Error kind.UnexpectedChar c))
on_after_hash angle raw c = Eat ph.AfterAngle
on_after_hash value raw c = on_hash (in_hash c) raw c

-- ---- here-strings

abbrev pub on_delim : InDelim → ℕ → Next
on_delim ends_delim c = Eat ph.HereStart
on_delim returns c = Eat ph.HereDelim
on_delim blank_delim c = Eat (ph.Done (Error kind.UnexpectedChar c))
on_delim of_delim c = Eat ph.HereDelim

-- ---- every phase

abbrev pub step_of : Bool → Phase → SoFar → ℕ → Next
step_of report ph.InLine i c = on_line c
step_of report ph.AfterComma i c = if eqb c (code "@") then Eat (ph.Done (Token kind.UnquoteSplice 0)) else Stop (Token kind.Unquote 0)
step_of report ph.AfterHash i c = on_after_hash (after_hash c) i.bytes c
step_of report ph.AfterAngle i c = if eqb c (code "<") then Eat ph.HereDelim else enter_word c
step_of report ph.HereDelim i c = on_delim (in_delim c) c
step_of report ph.HereStart i c = Eat ph.HereBody
step_of report ph.HereBody i c = if here_ends i.bytes then Stop HereStr else Eat ph.HereBody
step_of report ph.InWord i c = on_word (in_word c)
step_of report ph.WordEscape i c = Eat ph.InWord
step_of report ph.InRun i c = on_run (in_run report i.bytes c) c
step_of report ph.InHash i c = on_hash (in_hash c) i.bytes c
step_of report ph.HashEscape i c = Eat ph.InHash
step_of report ph.HashTick i c = hash_then (hash_kind i.bytes) c
step_of report ph.HashComma i c = if eqb c (code "@") then Eat ph.HashTick else hash_then (hash_kind i.bytes) c
step_of report (ph.Nest d) i c = on_nest (in_nest c) d
step_of report (ph.NestBar d) i c = on_bar (in_nest c) d
step_of report (ph.NestSharp d) i c = on_sharp (in_nest c) d
step_of report (ph.Quoted k) i c = on_quoted (in_quotes k c) k i c
step_of report (ph.Closed k) i c = Stop (closed k i.bytes)
step_of report (ph.TrimBefore k) i c = on_trim_before (in_trim c) k i c
step_of report (ph.TrimAfter k) i c = on_trim_after (in_trim c) k i c
step_of report (ph.Escape k from) i c = on_escape (after_backslash c) k from i c
step_of report (ph.Brace k from) i c =
    if eqb c (code "{") then Eat (ph.Hex k (code "}") from (length (eat i c).bytes)) else on_brace report (in_hex k (code ";") c) k from i c
step_of report (ph.Hex k closer from n) i c = on_hex report (in_hex k closer c) k closer from n i c
step_of report (ph.Done o) i c = Stop o

-- what the end of the text makes of a phase
abbrev pub finish_of : Phase → List ℕ → Outcome
finish_of ph.InLine raw = comment
finish_of ph.AfterComma raw = Token kind.Unquote 0
finish_of ph.AfterHash raw = hash_last (hash_kind raw)
finish_of ph.AfterAngle raw = Word
finish_of ph.HereDelim raw = Error kind.IncompleteString 0
finish_of ph.HereStart raw = Error kind.IncompleteString 0
finish_of ph.HereBody raw = if here_ends raw then HereStr else Error kind.IncompleteString 0
finish_of ph.InWord raw = Word
finish_of ph.WordEscape raw = Word
finish_of ph.InRun raw = Run
finish_of ph.InHash raw = hash_last (hash_kind raw)
finish_of ph.HashEscape raw = hash_last (hash_kind raw)
finish_of ph.HashTick raw = hash_last (hash_kind raw)
finish_of ph.HashComma raw = hash_last (hash_kind raw)
finish_of (ph.Nest d) raw = Error kind.IncompleteComment 0
finish_of (ph.NestBar d) raw = Error kind.IncompleteComment 0
finish_of (ph.NestSharp d) raw = Error kind.IncompleteComment 0
finish_of (ph.Quoted k) raw = unclosed k raw
finish_of (ph.Closed k) raw = closed k raw
finish_of (ph.TrimBefore k) raw = cut k
finish_of (ph.TrimAfter k) raw = cut k
finish_of (ph.Escape k from) raw = cut k
finish_of (ph.Brace k from) raw = cut k
finish_of (ph.Hex k closer from n) raw = cut k
finish_of (ph.Done o) raw = o

-- the phase after the first character of an item
abbrev pub on_first : First → Phase
on_first semicolon = ph.InLine
on_first quote = ph.Quoted Double
on_first comma = ph.AfterComma
on_first hash = ph.AfterHash
on_first number = ph.InRun
on_first (single k d) = ph.Done (Token k d)
on_first vertical = ph.Quoted Lines
on_first backslash = ph.WordEscape
on_first wordy = ph.InWord

-- one item, from a phase to its end
unfoldable pub scan_of : Bool → Phase → SoFar → List ℕ → Read
scan_of report p i [] = got (finish_of p i.bytes) i []
scan_of report p i (c ∷ cs) = elim (step_of report p i c) [ Eat q ↦ scan_of report q (eat i c) cs | Stop o ↦ got o i (c ∷ cs) ]

-- how many nested comments a phase is in
abbrev pub depth_of : Phase → ℕ
depth_of ph.InLine = 0
depth_of ph.AfterComma = 0
depth_of ph.AfterHash = 0
depth_of ph.AfterAngle = 0
depth_of ph.HereDelim = 0
depth_of ph.HereStart = 0
depth_of ph.HereBody = 0
depth_of ph.InWord = 0
depth_of ph.WordEscape = 0
depth_of ph.InRun = 0
depth_of ph.InHash = 0
depth_of ph.HashEscape = 0
depth_of ph.HashTick = 0
depth_of ph.HashComma = 0
depth_of (ph.Nest d) = d
depth_of (ph.NestBar d) = d
depth_of (ph.NestSharp d) = d
depth_of (ph.Quoted k) = 0
depth_of (ph.Closed k) = 0
depth_of (ph.TrimBefore k) = 0
depth_of (ph.TrimAfter k) = 0
depth_of (ph.Escape k from) = 0
depth_of (ph.Brace k from) = 0
depth_of (ph.Hex k closer from n) = 0
depth_of (ph.Done o) = 0
