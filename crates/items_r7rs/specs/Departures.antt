-- The departures from R7RS 7.1.1: the rows of docs/DIFFERENCES.md, part B, by their labels. A row has its smallest texts, and of each what
-- the definition reads there in both modes: for each item its kind, detail, extent and text. One table, proved by computation. What the
-- standard has stands in docs/DIFFERENCES.md.
use Rattle.std.specs.Prelude.{ℕ, ◌+◌, ◌-◌, ◌≡◌, refl, Bool, true, false, List, [], ◌∷◌, map}
use Prim.Native.String.{String}
use Rattle.laws.specs.Quoted.{code, codes, within}
use Rattle.laws.specs.Texts.{span, starts, begins, same}
use Rattle.chars.specs.Encode.{is_scalar, utf8, width, encode, bytes_of, spelled}
use Rattle.chars.specs.Blank.{is_blank}
use Rattle.chars.specs.Utf8.{first, rest, front}
use Rattle.digits.specs.Digits.{digit_of, sign, uinteger, value, fit, signed, whole_of, integer}
use Rattle.digits.specs.Hex.{hex_digits, hex_after_plus, hex_value}
use Rattle.numbers.specs.Reals.{exponent_marker, exponent, suffix, point_of, dotted, undotted, decimal, infnan, integral_of, rational_of, denominator, exact, or_else, ureal, real}
use Rattle.numbers.specs.Grammar.{just_of, complex_of, polar_of, ends_i, imaginary, alone_of, pair_of, to_sign, starts_e, rectangular, complex}
use Rattle.numbers.specs.Grammar.{zero_int, zero_real, zero_parts, judged, radix_mark, prefix, parse_number}
use Rattle.items.specs.Classes.{starts_run, first_of, in_quotes, after_backslash, stops_hex, in_hex, in_trim, in_nest, breaks_word, in_word, stays_run, ends_run, in_run, after_hash, ends_hash, in_hash, in_delim}
use Rattle.items.specs.Readers.{read_line, lined_of, scalar_of, past_failing, read_word, read_run, bool_kind, quote_kind, form_kind, hash_kind}
use Rattle.items.specs.Readers.{hash_bracket, hash_at, hash_comma, unreturned, ends_with, here_ends, here_body, here_delim, after_angle, read_hash}
use Rattle.items.specs.Readers.{read_comma, read_item, read_nest, read_quoted, read_word_on, hash_on}
use Rattle.items.specs.Meaning.{Text, none, source, decoded, lookup, words, word_kind, word_means, run_means, escaped, string_text, lined_text}
use Rattle.items.specs.Meaning.{here_text, char_names, is_delimiter, nameless, hex_named, spelled_out, character_of, unescape}
use Rattle.items.specs.Items.{extent_items, items_from, past_line, after_pound, items}
use Rattle.items.specs.Kinds as kind

-- an item's kind, detail, extent and text
record Found : Type 0 where
  kind : ℕ
  detail : ℕ
  start : ℕ
  end : ℕ
  text : Text

abbrev found : ℕ → ℕ → ℕ → ℕ → Text → Found
found k d s e t = record { kind = k; detail = d; start = s; end = e; text = t }

-- an item with no text
abbrev bare : ℕ → ℕ → ℕ → ℕ → Found
bare k d s e = found k d s e none

-- an error: its number, its detail and its extent
abbrev failed : ℕ → ℕ → ℕ → ℕ → Found
failed n d s e = bare (kind.first_error + n) d s e

-- an item with its text in the source, and one with a decoded text
abbrev sourced : ℕ → ℕ → ℕ → ℕ → ℕ → Found
sourced k s e a b = found k 0 s e (source a b)

abbrev decodes : ℕ → ℕ → ℕ → List ℕ → Found
decodes k s e bs = found k 0 s e (decoded bs)

-- an identifier as it stands, and one in vertical lines
abbrev identifier : ℕ → ℕ → Found
identifier s e = sourced kind.Identifier s e s e

abbrev lined : ℕ → ℕ → Found
lined s e = sourced kind.Identifier s e (s + 1) (e - 1)

record Row : Type 0 where
  label : String
  text : List ℕ
  plain : List Found
  report : List Found

-- the same in both modes
abbrev numbered : String → List ℕ → List Found → Row
numbered l t w = record { label = l; text = t; plain = w; report = w }

abbrev row : String → String → List Found → Row
row l s w = numbered l (codes s) w

-- what plain mode reads, and what report mode does
abbrev moded : String → String → List Found → List Found → Row
moded l s p r = record { label = l; text = codes s; plain = p; report = r }

table : List Row
table =
    -- brackets that the standard reserves
    row "B1" "[" (bare kind.OpenParen kind.Square 0 1 ∷ [])
    ∷ row "B1" "]" (bare kind.CloseParen kind.Square 0 1 ∷ [])
    ∷ row "B1" "{" (bare kind.OpenParen kind.Curly 0 1 ∷ [])
    ∷ row "B1" "}" (bare kind.CloseParen kind.Curly 0 1 ∷ [])
    -- a <delimiter> after what starts with #
    ∷ row "B2" "#t;" (identifier 0 3 ∷ [])
    ∷ row "B2" "#t\"\"" (identifier 0 4 ∷ [])
    ∷ row "B2" "#t||" (identifier 0 4 ∷ [])
    -- what starts with # and is no token of the standard
    ∷ row "B3" "#t}" (identifier 0 3 ∷ [])
    ∷ row "B3" "#foo;c" (identifier 0 6 ∷ [])
    -- case is not significant in <boolean>
    ∷ row "B4" "#T" (identifier 0 2 ∷ [])
    -- nor in #u8(
    ∷ row "B5" "#U8(" (identifier 0 3 ∷ bare kind.OpenParen kind.Round 3 4 ∷ [])
    -- a byte vector's bracket with a blank in it
    ∷ row "B6" "#u8 (" (identifier 0 3 ∷ bare kind.OpenParen kind.Round 4 5 ∷ [])
    -- forms of the Rust's own, and a # alone
    ∷ row "B7" "#" (identifier 0 1 ∷ [])
    ∷ row "B7" "#:a" (sourced kind.Keyword 0 3 0 3 ∷ [])
    ∷ row "B7" "#'a" (bare kind.QuoteSyntax 0 0 2 ∷ identifier 2 3 ∷ [])
    ∷ row "B7" "#<<\na" (sourced kind.StringLiteral 0 5 4 5 ∷ [])
    ∷ row "B7" "##" (failed kind.UnexpectedChar (code "#") 0 2 ∷ [])
    -- <directive>; first in the text it is a line that is passed over
    ∷ row "B8" " #!fold-case" (identifier 1 12 ∷ [])
    ∷ row "B8" "#!fold-case" []
    -- <label>
    ∷ row "B9" "#1=a" (identifier 0 4 ∷ [])
    ∷ row "B9" "#1#" (identifier 0 3 ∷ [])
    -- a <delimiter> after a number: report mode reads what the standard has
    ∷ moded "B10" "1;" (identifier 0 1 ∷ bare kind.Comment 0 1 2 ∷ []) (bare kind.Number 0 0 1 ∷ bare kind.Comment 0 1 2 ∷ [])
    ∷ moded "B10" "1\"\"" (identifier 0 1 ∷ sourced kind.StringLiteral 1 3 2 2 ∷ []) (bare kind.Number 0 0 1 ∷ sourced kind.StringLiteral 1 3 2 2 ∷ [])
    ∷ moded "B10" "#x1;" (identifier 0 3 ∷ bare kind.Comment 0 3 4 ∷ []) (bare kind.Number 0 0 3 ∷ bare kind.Comment 0 3 4 ∷ [])
    -- and a vertical line there
    ∷ moded "B11" "1||" (failed kind.IncompleteIdentifier 0 0 3 ∷ []) (bare kind.Number 0 0 1 ∷ lined 1 3 ∷ [])
    -- a brace ends no number
    ∷ row "B12" "{1}" (bare kind.OpenParen kind.Curly 0 1 ∷ identifier 1 2 ∷ bare kind.CloseParen kind.Curly 2 3 ∷ [])
    -- nor does a mark
    ∷ row "B13" "1'" (identifier 0 1 ∷ bare kind.QuoteTick 0 1 2 ∷ [])
    ∷ row "B13" "1,5" (identifier 0 1 ∷ bare kind.Unquote 0 1 2 ∷ bare kind.Number 0 2 3 ∷ [])
    -- <exactness>
    ∷ row "B14" "#e1" (identifier 0 3 ∷ [])
    ∷ row "B14" "#i1" (identifier 0 3 ∷ [])
    ∷ row "B14" "#x#e1" (identifier 0 5 ∷ [])
    -- a zero denominator
    ∷ row "B15" "1/0" (failed kind.ZeroDenominator 0 0 3 ∷ [])
    -- neither numbers nor identifiers to the standard
    ∷ row "B16" "1+" (identifier 0 2 ∷ [])
    ∷ row "B16" "1a" (identifier 0 2 ∷ [])
    ∷ row "B16" "1_0" (identifier 0 3 ∷ [])
    ∷ row "B16" "#b2" (identifier 0 3 ∷ [])
    ∷ row "B16" "#x" (identifier 0 2 ∷ [])
    -- a sign below the slash
    ∷ row "B17" "1@1/-2" (bare kind.Number 0 0 6 ∷ [])
    -- the same where the standard has a <peculiar identifier>
    ∷ row "B18" "-inf.0@1/-1" (bare kind.Number 0 0 11 ∷ [])
    -- letters of a number in upper case
    ∷ row "B19" "-I" (identifier 0 2 ∷ [])
    ∷ row "B19" "+I" (sourced kind.Identifier 0 2 0 1 ∷ sourced kind.Identifier 0 2 1 2 ∷ [])
    -- a sign after an odd number of e's
    ∷ row "B20" "#xe+i" (identifier 0 5 ∷ [])
    ∷ row "B20" "#xe+1i" (identifier 0 6 ∷ [])
    -- <peculiar identifier> of two characters or more that begins with +: two identifiers of one extent
    ∷ row "B21" "+a" (sourced kind.Identifier 0 2 0 1 ∷ sourced kind.Identifier 0 2 1 2 ∷ [])
    -- a vertical line is a <delimiter> after a sign and a dot
    ∷ row "B22" "+|a|" (sourced kind.Identifier 0 4 0 1 ∷ sourced kind.Identifier 0 4 1 4 ∷ [])
    -- and where the lines are empty or no plus stands before them
    ∷ row "B23" "-||" (failed kind.IncompleteIdentifier 0 0 3 ∷ [])
    ∷ row "B23" ".||" (failed kind.IncompleteIdentifier 0 0 3 ∷ [])
    -- and after a word
    ∷ row "B24" "a||" (identifier 0 3 ∷ [])
    -- also where it is not closed
    ∷ row "B25" "a|" (identifier 0 2 ∷ [])
    -- identifiers with kinds of their own
    ∷ row "B26" "if" (bare kind.If 0 0 2 ∷ [])
    ∷ row "B26" "let" (bare kind.Let 0 0 3 ∷ [])
    ∷ row "B26" "define" (bare kind.Define 0 0 6 ∷ [])
    ∷ row "B26" "defn" (bare kind.Define 0 0 4 ∷ [])
    ∷ row "B26" "%plain-let" (bare kind.TestLet 0 0 10 ∷ [])
    ∷ row "B26" "return!" (bare kind.Return 0 0 7 ∷ [])
    ∷ row "B26" "begin" (bare kind.Begin 0 0 5 ∷ [])
    ∷ row "B26" "lambda" (bare kind.Lambda 0 0 6 ∷ [])
    ∷ row "B26" "fn" (bare kind.Lambda 0 0 2 ∷ [])
    ∷ row "B26" "λ" (bare kind.Lambda 0 0 2 ∷ [])
    ∷ row "B26" "quote" (bare kind.Quote 0 0 5 ∷ [])
    ∷ row "B26" "syntax-rules" (bare kind.SyntaxRules 0 0 12 ∷ [])
    ∷ row "B26" "define-syntax" (bare kind.DefineSyntax 0 0 13 ∷ [])
    ∷ row "B26" "..." (bare kind.Ellipses 0 0 3 ∷ [])
    ∷ row "B26" "set!" (bare kind.Set 0 0 4 ∷ [])
    ∷ row "B26" "require" (bare kind.Require 0 0 7 ∷ [])
    -- words of the Rust with such kinds
    ∷ row "B27" "#%define" (bare kind.Define 0 0 8 ∷ [])
    ∷ row "B27" "#%plain-lambda" (bare kind.Lambda 0 0 14 ∷ [])
    -- characters that start or make no <identifier>
    ∷ row "B28" "@" (identifier 0 1 ∷ [])
    ∷ row "B28" "\\" (identifier 0 1 ∷ [])
    ∷ numbered "B28" (0x01 ∷ []) (identifier 0 1 ∷ [])
    ∷ row "B28" "a#" (identifier 0 2 ∷ [])
    ∷ row "B28" "a\\" (identifier 0 2 ∷ [])
    ∷ row "B28" "-." (identifier 0 2 ∷ [])
    -- a mark ends an identifier
    ∷ row "B29" "a'" (identifier 0 1 ∷ bare kind.QuoteTick 0 1 2 ∷ [])
    -- past ASCII: a category that the standard leaves out, and a digit first
    ∷ row "B30" "«" (identifier 0 2 ∷ [])
    ∷ numbered "B30" (0x663 ∷ []) (identifier 0 2 ∷ [])
    -- an escaped line closes at the end of the text
    ∷ row "B31" "|a\\|" (decodes kind.Identifier 0 4 (spelled "a|") ∷ [])
    -- escapes that the standard has not, in vertical lines
    ∷ row "B32" "|\\0|" (decodes kind.Identifier 0 4 (0x00 ∷ []) ∷ [])
    ∷ row "B32" "|\\u41;|" (decodes kind.Identifier 0 7 (spelled "A") ∷ [])
    -- a line that goes on and leaves nothing: the text is the source's
    ∷ row "B33" "|\\\n|" (lined 0 4 ∷ [])
    -- case is not significant in the x of an escape
    ∷ row "B34" "\"\\X0;\"" (failed kind.InvalidStringEscape (code "X") 0 2 ∷ identifier 2 4 ∷ bare kind.Comment 0 4 6 ∷ [])
    ∷ row "B34" "|\\X0;|" (failed kind.InvalidStringEscape (code "X") 0 2 ∷ identifier 2 4 ∷ bare kind.Comment 0 4 6 ∷ [])
    -- nor in the x of a character
    ∷ row "B35" "#\\X0" (failed kind.InvalidCharName 0 0 4 ∷ [])
    -- escapes and characters that the standard has not
    ∷ row "B36" "\"\\x+41;\"" (decodes kind.StringLiteral 0 8 (spelled "A") ∷ [])
    ∷ row "B36" "\"\\0\"" (decodes kind.StringLiteral 0 4 (0x00 ∷ []) ∷ [])
    ∷ row "B36" "\"\\u41;\"" (decodes kind.StringLiteral 0 7 (spelled "A") ∷ [])
    ∷ row "B36" "\"\\u{41}\"" (decodes kind.StringLiteral 0 8 (spelled "A") ∷ [])
    ∷ row "B36" "#\\u41" (bare kind.CharacterLiteral (code "A") 0 5 ∷ [])
    ∷ row "B36" "#\\x+41" (bare kind.CharacterLiteral (code "A") 0 6 ∷ [])
    -- <hex scalar value> that is no character
    ∷ row "B37" "#\\xD800" (failed kind.InvalidHexCodePoint 0xD800 0 7 ∷ [])
    ∷ row "B37" "\"\\xD800;\"" (failed kind.InvalidHexCodePoint 0xD800 0 8 ∷ failed kind.IncompleteString 0 8 9 ∷ [])
    ∷ row "B37" "|\\xD800;|" (failed kind.InvalidHexCodePoint 0xD800 0 8 ∷ failed kind.IncompleteIdentifier 0 8 9 ∷ [])
    -- <line ending> → <return>, in a string or a name that goes on
    ∷ row "B38" "\"\\\r\"" (failed kind.InvalidStringEscape (code "\r") 0 2 ∷ failed kind.IncompleteString 0 3 4 ∷ [])
    ∷ row "B38" "\"\\\r\n\"" (failed kind.InvalidStringEscape (code "\r") 0 2 ∷ failed kind.IncompleteString 0 4 5 ∷ [])
    ∷ row "B38" "|\\\r|" (failed kind.InvalidStringEscape (code "\r") 0 2 ∷ failed kind.IncompleteIdentifier 0 3 4 ∷ [])
    -- a <return> in a string: the standard reads a newline, the text here is the <return>
    ∷ row "B39" "\"\r\"" (sourced kind.StringLiteral 0 3 1 2 ∷ [])
    -- a <delimiter> after a character; of two of them report mode's error says more
    ∷ moded "B40" "#\\a;" (failed kind.InvalidCharName 0 0 4 ∷ []) (failed kind.InvalidCharDelimiter 0 0 4 ∷ [])
    ∷ moded "B40" "#\\a\"\"" (failed kind.InvalidCharName 0 0 5 ∷ []) (failed kind.InvalidCharDelimiter 0 0 5 ∷ [])
    ∷ row "B40" "#\\a||" (failed kind.InvalidCharName 0 0 5 ∷ [])
    -- case is significant in <character name>
    ∷ row "B41" "#\\SPACE" (bare kind.CharacterLiteral (code " ") 0 7 ∷ [])
    -- blanks beyond <whitespace>
    ∷ numbered "B42" (0x0B ∷ []) []
    ∷ numbered "B42" (0x85 ∷ []) []
    ∷ numbered "B42" (0xA0 ∷ []) []
    ∷ numbered "B42" (0x2003 ∷ []) []
    -- <line ending> → <return>, after a comment
    ∷ row "B43" ";\ra" (bare kind.Comment 0 0 3 ∷ [])
    -- the line ending is no part of the comment
    ∷ row "B44" ";\n" (bare kind.Comment 0 0 2 ∷ [])
    -- #; and its datum are one comment
    ∷ row "B45" "#;a" (bare kind.DatumComment 0 0 2 ∷ identifier 2 3 ∷ [])
    -- <comment text> that ends in # before |#, or in | before #|: marks count from the left
    ∷ row "B46" "#|#|#" (failed kind.IncompleteComment 0 0 5 ∷ [])
    ∷ row "B46" "#||#||#|#" (bare kind.Comment 0 0 4 ∷ lined 4 6 ∷ failed kind.IncompleteComment 0 6 9 ∷ [])
    ∷ []

-- what the definition reads
abbrev read : Bool → List (List Found)
read report = map (λ r. map (λ i. found i.kind i.detail i.start i.end i.text) (items report r.text)) table

computed : read false ≡ map (λ r. r.plain) table
-- the list only permits the computing
unfolding table span starts begins same is_scalar utf8 width encode bytes_of is_blank within first rest front digit_of sign uinteger value fit
    signed whole_of integer hex_digits hex_after_plus hex_value exponent_marker exponent suffix point_of dotted undotted decimal infnan integral_of
    rational_of denominator exact or_else ureal real just_of complex_of polar_of ends_i imaginary alone_of pair_of to_sign starts_e rectangular
    complex zero_int zero_real zero_parts judged radix_mark prefix parse_number starts_run first_of in_quotes after_backslash stops_hex in_hex in_trim
    in_nest breaks_word in_word stays_run ends_run in_run after_hash ends_hash in_hash in_delim read_line lined_of scalar_of past_failing read_word read_run
    bool_kind quote_kind form_kind hash_kind hash_bracket hash_at hash_comma unreturned ends_with here_ends here_body here_delim after_angle read_hash
    read_comma read_item read_nest read_quoted read_word_on hash_on lookup words word_kind word_means run_means escaped string_text lined_text here_text
    char_names is_delimiter nameless hex_named spelled_out character_of unescape extent_items items_from past_line after_pound items
computed = refl

computed_report : read true ≡ map (λ r. r.report) table
-- the list only permits the computing
unfolding table span starts begins same is_scalar utf8 width encode bytes_of is_blank within first rest front digit_of sign uinteger value fit
    signed whole_of integer hex_digits hex_after_plus hex_value exponent_marker exponent suffix point_of dotted undotted decimal infnan integral_of
    rational_of denominator exact or_else ureal real just_of complex_of polar_of ends_i imaginary alone_of pair_of to_sign starts_e rectangular
    complex zero_int zero_real zero_parts judged radix_mark prefix parse_number starts_run first_of in_quotes after_backslash stops_hex in_hex in_trim
    in_nest breaks_word in_word stays_run ends_run in_run after_hash ends_hash in_hash in_delim read_line lined_of scalar_of past_failing read_word read_run
    bool_kind quote_kind form_kind hash_kind hash_bracket hash_at hash_comma unreturned ends_with here_ends here_body here_delim after_angle read_hash
    read_comma read_item read_nest read_quoted read_word_on hash_on lookup words word_kind word_means run_means escaped string_text lined_text here_text
    char_names is_delimiter nameless hex_named spelled_out character_of unescape extent_items items_from past_line after_pound items
computed_report = refl
