-- E1 to E16 of document 01, its `lexlist` text, and the requests' texts: all words of every record, and the text memory. One table, one
-- statement, proved by computation.
use Rattle.std.specs.Prelude.{ℕ, ◌+◌, ◌≡◌, refl, Bool, true, false, List, [], ◌∷◌, ◌++◌, map, take}
use Prim.Native.String.{String}
use Rattle.laws.specs.Quoted.{code, codes, within}
use Rattle.items.specs.Kinds as kind
use Rattle.laws.specs.Texts.{span, starts, begins, same}
use Rattle.chars.specs.Encode.{is_scalar, utf8, width, encode, bytes_of, spelled}
use Rattle.chars.specs.Blank.{is_blank}
use Rattle.chars.specs.Utf8.{first, rest, front}
use Rattle.digits.specs.Digits.{digit_of, sign, uinteger, value, fit, signed, whole_of, integer}
use Rattle.digits.specs.Hex.{hex_digits, hex_after_plus, hex_value}
use Rattle.numbers.specs.Reals.{exponent_marker, exponent, suffix, point_of, dotted, undotted, decimal, infnan, integral_of, rational_of, denominator, exact, or_else, ureal, real}
use Rattle.numbers.specs.Grammar.{just_of, complex_of, polar_of, ends_i, imaginary, alone_of, pair_of, to_sign, starts_e, rectangular, complex}
use Rattle.numbers.specs.Grammar.{zero_int, zero_real, zero_parts, judged, radix_mark, prefix, parse_number}
use Rattle.items.specs.Classes.{starts_run, first_of, in_quotes, after_backslash, stops_hex, in_hex, in_trim, in_nest, breaks_word, in_word, stays_run, ends_run, in_run, after_hash, ends_hash, in_hash, in_delim}
use Rattle.items.specs.Readers.{read_line, lined_of, scalar_of, past_failing, read_word, read_run, bool_kind, quote_kind, form_kind, hash_kind}
use Rattle.items.specs.Readers.{hash_bracket, hash_at, hash_comma, unreturned, ends_with, here_ends, here_body, here_delim, after_angle}
use Rattle.items.specs.Readers.{read_hash, read_comma, read_item, read_nest, read_quoted, read_word_on, hash_on}
use Rattle.items.specs.Meaning.{lookup, words, word_kind, word_means, run_means, escaped, string_text, lined_text, here_text, char_names}
use Rattle.items.specs.Meaning.{is_delimiter, nameless, hex_named, spelled_out, character_of, unescape}
use Rattle.items.specs.Items.{extent_items, items_from, past_line, after_pound, items, kept, own_words, records, texts, Item}

-- what the whole-text call writes for a text: its records' words, and its text memory
record Shown : Type 0 where
  words : List ℕ
  memory : List ℕ

abbrev shows : List (List ℕ) → List ℕ → Shown
shows [] m = record { words = []; memory = m }
shows (r ∷ rs) m = record { words = r ++ (shows rs m).words; memory = m }

abbrev shown : List Item → Shown
shown is = record { words = records 0 0 is; memory = texts is }

record Example : Type 0 where
  report : Bool
  text : List ℕ
  wanted : Shown

abbrev plainly : List ℕ → List (List ℕ) → List ℕ → Example
plainly cs r m = record { report = false; text = cs; wanted = shows r m }

abbrev plain : String → List (List ℕ) → List ℕ → Example
plain s r m = plainly (codes s) r m

abbrev reported : String → List (List ℕ) → List ℕ → Example
reported s r m = record { report = true; text = codes s; wanted = shows r m }

-- a record outside all brackets: kind, detail, extent, place, text source, text places, and the depth 0
abbrev outside : ℕ → ℕ → ℕ → ℕ → ℕ → ℕ → ℕ → ℕ → ℕ → List ℕ
outside k d s e a b o f t = k ∷ d ∷ s ∷ e ∷ a ∷ b ∷ o ∷ f ∷ t ∷ 0 ∷ []

-- the same with n brackets open
abbrev deep : ℕ → List ℕ → List ℕ
deep n r = take own_words r ++ (n ∷ [])

-- an item with no text, whose place is its extent
abbrev bare : ℕ → ℕ → ℕ → ℕ → List ℕ
bare k d s e = outside k d s e s e 0 0 0

-- an error: its number, its detail, its extent and its place
abbrev error : ℕ → ℕ → ℕ → ℕ → ℕ → ℕ → List ℕ
error n d s e a b = outside (kind.first_error + n) d s e a b 0 0 0

-- an item with its text in the source, and one with its text in the text memory
abbrev sourced : ℕ → ℕ → ℕ → ℕ → ℕ → List ℕ
sourced k s e f t = outside k 0 s e s e 1 f t

abbrev decoded : ℕ → ℕ → ℕ → ℕ → ℕ → List ℕ
decoded k s e f t = outside k 0 s e s e 2 f t

table : List Example
table =
    -- E1
    plain "" [] []
    -- E2
    ∷ plain "+foo" (sourced kind.Identifier 0 4 0 1 ∷ sourced kind.Identifier 0 4 1 4 ∷ []) []
    -- E3
    ∷ plain "||" (sourced kind.Identifier 0 2 1 1 ∷ []) []
    -- E4
    ∷ plain "#\\" (error kind.InvalidCharacter 0 0 2 0 2 ∷ []) []
    -- E5
    ∷ plain "1/0" (error kind.ZeroDenominator 0 0 3 0 3 ∷ []) []
    -- E6
    ∷ plain "1/-2" (sourced kind.Identifier 0 4 0 4 ∷ []) []
    -- E7
    ∷ plain "1@1/-2" (bare kind.Number 0 0 6 ∷ []) []
    -- E8, in both modes
    ∷ plain "14.7;gps" (sourced kind.Identifier 0 4 0 4 ∷ bare kind.Comment 0 4 8 ∷ []) []
    ∷ reported "14.7;gps" (bare kind.Number 0 0 4 ∷ bare kind.Comment 0 4 8 ∷ []) []
    -- 02 (iii), in both modes: a vertical line ends a number in report mode
    ∷ plain "12|Birch|" (error kind.IncompleteIdentifier 0 0 9 0 9 ∷ []) []
    ∷ reported "12|Birch|" (bare kind.Number 0 0 2 ∷ sourced kind.Identifier 2 9 3 8 ∷ []) []
    ∷ plain "1||" (error kind.IncompleteIdentifier 0 0 3 0 3 ∷ []) []
    ∷ reported "1||" (bare kind.Number 0 0 1 ∷ sourced kind.Identifier 1 3 2 2 ∷ []) []
    ∷ plain "12|" (error kind.IncompleteIdentifier 0 0 3 0 3 ∷ []) []
    ∷ reported "12|" (bare kind.Number 0 0 2 ∷ error kind.IncompleteIdentifier 0 2 3 2 3 ∷ []) []
    ∷ plain "1/0|a|" (error kind.IncompleteIdentifier 0 0 6 0 6 ∷ []) []
    ∷ reported "1/0|a|" (error kind.ZeroDenominator 0 0 3 0 3 ∷ sourced kind.Identifier 3 6 4 5 ∷ []) []
    ∷ plain "+5|a|" (sourced kind.Identifier 0 5 0 1 ∷ sourced kind.Identifier 0 5 1 5 ∷ []) []
    ∷ reported "+5|a|" (bare kind.Number 0 0 2 ∷ sourced kind.Identifier 2 5 3 4 ∷ []) []
    ∷ plain "+i|a|" (sourced kind.Identifier 0 5 0 1 ∷ sourced kind.Identifier 0 5 1 5 ∷ []) []
    ∷ reported "+i|a|" (bare kind.Number 0 0 2 ∷ sourced kind.Identifier 2 5 3 4 ∷ []) []
    -- `#x` begins a number run too
    ∷ plain "#x1F|a|" (error kind.IncompleteIdentifier 0 0 7 0 7 ∷ []) []
    ∷ reported "#x1F|a|" (bare kind.Number 0 0 4 ∷ sourced kind.Identifier 4 7 5 6 ∷ []) []
    ∷ plain "12|a\\|" (error kind.IncompleteIdentifier 0 0 6 0 6 ∷ []) []
    ∷ reported "12|a\\|" (bare kind.Number 0 0 2 ∷ decoded kind.Identifier 2 6 0 2 ∷ []) (spelled "a|")
    ∷ reported "|a|12" (sourced kind.Identifier 0 3 1 2 ∷ bare kind.Number 0 3 5 ∷ []) []
    -- a run that is no number goes on there, as in plain mode
    ∷ plain "-|a|" (error kind.IncompleteIdentifier 0 0 4 0 4 ∷ []) []
    ∷ reported "-|a|" (error kind.IncompleteIdentifier 0 0 4 0 4 ∷ []) []
    ∷ plain "+|a|" (sourced kind.Identifier 0 4 0 1 ∷ sourced kind.Identifier 0 4 1 4 ∷ []) []
    ∷ reported "+|a|" (sourced kind.Identifier 0 4 0 1 ∷ sourced kind.Identifier 0 4 1 4 ∷ []) []
    ∷ plain "-||" (error kind.IncompleteIdentifier 0 0 3 0 3 ∷ []) []
    ∷ reported "-||" (error kind.IncompleteIdentifier 0 0 3 0 3 ∷ []) []
    ∷ plain ".||" (error kind.IncompleteIdentifier 0 0 3 0 3 ∷ []) []
    ∷ reported ".||" (error kind.IncompleteIdentifier 0 0 3 0 3 ∷ []) []
    ∷ plain "1a|b|" (error kind.IncompleteIdentifier 0 0 5 0 5 ∷ []) []
    ∷ reported "1a|b|" (error kind.IncompleteIdentifier 0 0 5 0 5 ∷ []) []
    ∷ plain "#xn|a|" (error kind.IncompleteIdentifier 0 0 6 0 6 ∷ []) []
    ∷ reported "#xn|a|" (error kind.IncompleteIdentifier 0 0 6 0 6 ∷ []) []
    ∷ plain "#xZ|a|" (sourced kind.Identifier 0 6 0 6 ∷ []) []
    ∷ reported "#xZ|a|" (sourced kind.Identifier 0 6 0 6 ∷ []) []
    -- a word still goes on there
    ∷ reported "a|b|" (sourced kind.Identifier 0 4 0 4 ∷ []) []
    -- E9
    ∷ plain "|a\\|" (decoded kind.Identifier 0 4 0 2 ∷ []) (spelled "a|")
    -- E10
    ∷ plain "\"\\xD800;\"" (error kind.InvalidHexCodePoint 0xD800 0 8 1 8 ∷ error kind.IncompleteString 0 8 9 1 8 ∷ []) []
    -- and in report mode, 02 (ii): an error that sets no range of its own has its extent as place
    ∷ reported "\"\\xD800;\"" (error kind.InvalidHexCodePoint 0xD800 0 8 1 8 ∷ error kind.IncompleteString 0 8 9 8 9 ∷ []) []
    ∷ plain "\"\\q\" ##" (error kind.InvalidStringEscape (code "q") 0 2 1 3 ∷ sourced kind.Identifier 2 3 2 3 ∷ error kind.IncompleteString 0 3 7 1 3 ∷ []) []
    ∷ reported "\"\\q\" ##" (error kind.InvalidStringEscape (code "q") 0 2 1 3 ∷ sourced kind.Identifier 2 3 2 3 ∷ error kind.IncompleteString 0 3 7 3 7 ∷ []) []
    ∷ plain "\"\\ x\"" (error kind.InvalidWhitespace 0 0 3 3 4 ∷ sourced kind.Identifier 3 4 3 4 ∷ error kind.IncompleteString 0 4 5 3 4 ∷ []) []
    ∷ reported "\"\\ x\"" (error kind.InvalidWhitespace 0 0 3 3 4 ∷ sourced kind.Identifier 3 4 3 4 ∷ error kind.IncompleteString 0 4 5 4 5 ∷ []) []
    ∷ reported "\"\\q\" \"abc" (error kind.InvalidStringEscape (code "q") 0 2 1 3 ∷ sourced kind.Identifier 2 3 2 3 ∷ sourced kind.StringLiteral 3 6 4 5 ∷ sourced kind.Identifier 6 9 6 9 ∷ []) []
    ∷ plain "#\\xD800 1/0" (error kind.InvalidHexCodePoint 0xD800 0 7 0 7 ∷ error kind.ZeroDenominator 0 8 11 0 7 ∷ []) []
    ∷ reported "#\\xD800 1/0" (error kind.InvalidHexCodePoint 0xD800 0 7 0 7 ∷ error kind.ZeroDenominator 0 8 11 8 11 ∷ []) []
    ∷ reported "#\\ab #\\cd" (error kind.InvalidCharName 0 0 4 0 4 ∷ error kind.InvalidCharName 0 5 9 5 9 ∷ []) []
    ∷ reported "1/0 #\\ab" (error kind.ZeroDenominator 0 0 3 0 3 ∷ error kind.InvalidCharName 0 4 8 4 8 ∷ []) []
    -- 02 (vii), in both modes: error 11 points at the character that fails, at the digit that passes 32 bits, at the empty place where
    -- digits should stand; in a string, in vertical lines, in a character
    ∷ plain "\"\\x4G1;\"" (error kind.InvalidHexEscapeLiteral 2 0 7 1 7 ∷ error kind.IncompleteString 0 7 8 1 7 ∷ []) []
    ∷ reported "\"\\x4G1;\"" (error kind.InvalidHexEscapeLiteral 2 0 7 4 5 ∷ error kind.IncompleteString 0 7 8 7 8 ∷ []) []
    ∷ plain "\"\\x;" (error kind.InvalidHexEscapeLiteral 1 0 4 1 4 ∷ []) []
    ∷ reported "\"\\x;" (error kind.InvalidHexEscapeLiteral 1 0 4 3 3 ∷ []) []
    ∷ plain "\"\\x100000000;" (error kind.InvalidHexEscapeLiteral 3 0 13 1 13 ∷ []) []
    ∷ reported "\"\\x100000000;" (error kind.InvalidHexEscapeLiteral 3 0 13 11 12 ∷ []) []
    ∷ reported "\"\\u{}" (error kind.InvalidHexEscapeLiteral 1 0 5 4 4 ∷ []) []
    ∷ reported "\"\\u;" (error kind.InvalidHexEscapeLiteral 1 0 4 3 3 ∷ []) []
    ∷ reported "\"\\u4G;" (error kind.InvalidHexEscapeLiteral 2 0 6 4 5 ∷ []) []
    ∷ reported "\"\\x4é;" (error kind.InvalidHexEscapeLiteral 2 0 7 4 6 ∷ []) []
    ∷ reported "\"\\x+;" (error kind.InvalidHexEscapeLiteral 2 0 5 3 4 ∷ []) []
    ∷ plain "|\\x4G;" (error kind.InvalidHexEscapeLiteral 2 0 6 1 6 ∷ []) []
    ∷ reported "|\\x4G;" (error kind.InvalidHexEscapeLiteral 2 0 6 4 5 ∷ []) []
    ∷ plain "|\\x;" (error kind.InvalidHexEscapeLiteral 1 0 4 1 4 ∷ []) []
    ∷ reported "|\\x;" (error kind.InvalidHexEscapeLiteral 1 0 4 3 3 ∷ []) []
    ∷ plain "|\\x100000000;" (error kind.InvalidHexEscapeLiteral 3 0 13 1 13 ∷ []) []
    ∷ reported "|\\x100000000;" (error kind.InvalidHexEscapeLiteral 3 0 13 11 12 ∷ []) []
    -- lines after a plus, and after `#<`
    ∷ plain "+|\\xG;" (error kind.InvalidHexEscapeLiteral 2 0 6 2 6 ∷ []) []
    ∷ reported "+|\\xG;" (error kind.InvalidHexEscapeLiteral 2 0 6 4 5 ∷ []) []
    ∷ reported "#<|\\xG;" (error kind.InvalidHexEscapeLiteral 2 0 7 5 6 ∷ []) []
    ∷ plain "#\\x4G" (error kind.InvalidHexEscapeLiteral 2 0 5 0 5 ∷ []) []
    ∷ reported "#\\x4G" (error kind.InvalidHexEscapeLiteral 2 0 5 4 5 ∷ []) []
    ∷ plain "#\\u{}" (error kind.InvalidHexEscapeLiteral 1 0 5 0 5 ∷ []) []
    ∷ reported "#\\u{}" (error kind.InvalidHexEscapeLiteral 1 0 5 4 4 ∷ []) []
    ∷ plain "#\\x100000000" (error kind.InvalidHexEscapeLiteral 3 0 12 0 12 ∷ []) []
    ∷ reported "#\\x100000000" (error kind.InvalidHexEscapeLiteral 3 0 12 11 12 ∷ []) []
    ∷ reported "a #\\x4é" (sourced kind.Identifier 0 1 0 1 ∷ error kind.InvalidHexEscapeLiteral 2 2 8 6 8 ∷ []) []
    ∷ reported "#\\x4G;" (error kind.InvalidHexEscapeLiteral 2 0 6 4 5 ∷ []) []
    -- 02 (vii), in both modes: a delimiter in a character's name, after its first character
    ∷ plain "#\\a;" (error kind.InvalidCharName 0 0 4 0 4 ∷ []) []
    ∷ reported "#\\a;" (error kind.InvalidCharDelimiter 0 0 4 3 4 ∷ []) []
    ∷ reported "#\\ab;" (error kind.InvalidCharDelimiter 0 0 5 4 5 ∷ []) []
    ∷ reported "#\\é;" (error kind.InvalidCharDelimiter 0 0 5 4 5 ∷ []) []
    ∷ reported "#\\;;" (error kind.InvalidCharDelimiter 0 0 4 3 4 ∷ []) []
    ∷ reported "#\\a\";" (error kind.InvalidCharDelimiter 0 0 5 3 4 ∷ []) []
    ∷ reported "#\\a'" (error kind.InvalidCharDelimiter 0 0 4 3 4 ∷ []) []
    ∷ reported "#\\a," (error kind.InvalidCharDelimiter 0 0 4 3 4 ∷ []) []
    ∷ reported "#\\;" (bare kind.CharacterLiteral (code ";") 0 3 ∷ []) []
    ∷ reported "#\\\"" (bare kind.CharacterLiteral (code "\"") 0 3 ∷ []) []
    ∷ reported "#\\abc" (error kind.InvalidCharName 0 0 5 0 5 ∷ []) []
    -- E11
    ∷ plain "\"\\x+41;\"" (decoded kind.StringLiteral 0 8 0 1 ∷ []) (spelled "A")
    -- E12
    ∷ plain "#<<\nabc" (sourced kind.StringLiteral 0 5 4 5 ∷ sourced kind.Identifier 5 7 5 7 ∷ []) []
    -- E13
    ∷ plain "-|a|" (error kind.IncompleteIdentifier 0 0 4 0 4 ∷ []) []
    -- E14
    ∷ plain "|\\\n|" (sourced kind.Identifier 0 4 1 3 ∷ []) []
    -- E15
    ∷ plain "#xe+1i" (sourced kind.Identifier 0 6 0 6 ∷ []) []
    -- E16
    ∷ plain "12,5" (sourced kind.Identifier 0 2 0 2 ∷ bare kind.Unquote 0 2 3 ∷ bare kind.Number 0 3 4 ∷ []) []
    -- the text of `lexlist`
    ∷ plain "(a 14.7;gps\n"
    (bare kind.OpenParen kind.Round 0 1 ∷ deep 1 (sourced kind.Identifier 1 2 1 2) ∷ deep 1 (sourced kind.Identifier 3 7 3 7) ∷ deep 1 (bare kind.Comment 0 7 12) ∷ []) []
    -- 02 (vi): the depth is that before the item; a close with none open leaves it at 0
    ∷ plain "(a)" (bare kind.OpenParen kind.Round 0 1 ∷ deep 1 (sourced kind.Identifier 1 2 1 2) ∷ deep 1 (bare kind.CloseParen kind.Round 2 3) ∷ []) []
    ∷ plain ")(" (bare kind.CloseParen kind.Round 0 1 ∷ bare kind.OpenParen kind.Round 1 2 ∷ []) []
    ∷ plain ")))a"
    (bare kind.CloseParen kind.Round 0 1 ∷ bare kind.CloseParen kind.Round 1 2 ∷ bare kind.CloseParen kind.Round 2 3 ∷ sourced kind.Identifier 3 4 3 4 ∷ []) []
    -- every bracket opens, and any closes
    ∷ plain "([{#(#u8()]"
    (bare kind.OpenParen kind.Round 0 1 ∷ deep 1 (bare kind.OpenParen kind.Square 1 2) ∷ deep 2 (bare kind.OpenParen kind.Curly 2 3)
    ∷ deep 3 (bare kind.OpenParen kind.Vector 3 5) ∷ deep 4 (bare kind.OpenParen kind.Bytes 5 9) ∷ deep 5 (bare kind.CloseParen kind.Round 9 10)
    ∷ deep 4 (bare kind.CloseParen kind.Square 10 11) ∷ [])
    []
    -- brackets in strings, characters and comments are none; both items of a pair have the same depth
    ∷ plain "(\"(\"#\\( ;(\n+a"
    (bare kind.OpenParen kind.Round 0 1 ∷ deep 1 (sourced kind.StringLiteral 1 4 2 3) ∷ deep 1 (bare kind.CharacterLiteral (code "(") 4 7)
    ∷ deep 1 (bare kind.Comment 0 8 11) ∷ deep 1 (sourced kind.Identifier 11 13 11 12) ∷ deep 1 (sourced kind.Identifier 11 13 12 13) ∷ [])
    []
    -- a first line; words with a kind; characters, and a bad one; a blank past ASCII
    ∷ plain "#!x\nif" (bare kind.If 0 4 6 ∷ []) []
    ∷ plain "λ ... ." (bare kind.Lambda 0 0 2 ∷ bare kind.Ellipses 0 3 6 ∷ bare kind.Dot 0 7 8 ∷ []) []
    ∷ plain "#\\SPACE #\\λ #\\x41" (bare kind.CharacterLiteral (code " ") 0 7 ∷ bare kind.CharacterLiteral (code "λ") 8 12 ∷ bare kind.CharacterLiteral (code "A") 13 18 ∷ []) []
    ∷ plain "#\\u{3bb} #\\xyz" (bare kind.CharacterLiteral (code "λ") 0 8 ∷ error kind.InvalidHexEscapeLiteral 2 9 14 9 14 ∷ []) []
    ∷ plainly (code "a" ∷ 0xA0 ∷ code "b" ∷ []) (sourced kind.Identifier 0 1 0 1 ∷ sourced kind.Identifier 3 4 3 4 ∷ []) []
    -- the text memory is filled in order; an error's range stands on
    ∷ plain "\"\\n\" #\\ab |\\x3bb;| #\\"
    (decoded kind.StringLiteral 0 4 0 1 ∷ error kind.InvalidCharName 0 5 9 5 9 ∷ decoded kind.Identifier 10 18 1 3 ∷ error kind.InvalidCharacter 0 19 21 5 9 ∷ [])
    (spelled "\nλ")
    ∷ []

computed : map (λ r. shown (items r.report r.text)) table ≡ map (λ r. r.wanted) table
-- the list only permits the computing
unfolding table span starts begins same is_scalar utf8 width encode bytes_of is_blank within first rest front digit_of sign uinteger value fit
    signed whole_of integer hex_digits hex_after_plus hex_value exponent_marker exponent suffix point_of dotted undotted decimal infnan integral_of
    rational_of denominator exact or_else ureal real just_of complex_of polar_of ends_i imaginary alone_of pair_of to_sign starts_e rectangular
    complex zero_int zero_real zero_parts judged radix_mark prefix parse_number starts_run first_of in_quotes after_backslash stops_hex in_hex in_trim
    in_nest breaks_word in_word stays_run ends_run in_run after_hash ends_hash in_hash in_delim read_line lined_of scalar_of past_failing read_word read_run
    bool_kind quote_kind form_kind hash_kind hash_bracket hash_at hash_comma unreturned ends_with here_ends here_body here_delim after_angle read_hash
    read_comma read_item read_nest read_quoted read_word_on hash_on lookup words word_kind word_means run_means escaped string_text lined_text here_text
    char_names is_delimiter nameless hex_named spelled_out character_of unescape extent_items items_from past_line after_pound items kept records
    texts
computed = refl
