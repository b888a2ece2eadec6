-- Worked examples: a plan and its rows, one table under one statement, proved by computation.
use Rattle.std.specs.Prelude.{ℕ, ◌≡◌, refl, List, [], ◌∷◌, map}
use Prim.Native.String.{String}
use Rattle.laws.specs.Quoted.{code, codes, within}
use Rattle.items.specs.Kinds as kind
use Rattle.laws.specs.Texts.{span, starts, begins, same}
use Rattle.chars.specs.Encode.{is_scalar, utf8, width, encode, bytes_of}
use Rattle.chars.specs.Blank.{is_blank}
use Rattle.chars.specs.Utf8.{first, rest, front, sequences, chars}
use Rattle.digits.specs.Digits.{digit_of, sign, uinteger, value, fit, signed, whole_of, integer}
use Rattle.digits.specs.Hex.{hex_digits, hex_after_plus, hex_value}
use Rattle.numbers.specs.Reals.{exponent_marker, exponent, suffix, point_of, dotted, undotted, decimal, infnan, integral_of, rational_of, denominator, exact, or_else, ureal, real}
use Rattle.numbers.specs.Grammar.{just_of, complex_of, polar_of, ends_i, imaginary, alone_of, pair_of, to_sign, starts_e, rectangular, complex}
use Rattle.numbers.specs.Grammar.{zero_int, zero_real, zero_parts, judged, radix_mark, prefix, parse_number}
use Rattle.items.specs.Classes.{starts_run, first_of, in_quotes, after_backslash, stops_hex, in_hex, in_trim, in_nest, breaks_word, in_word, stays_run, ends_run, in_run, after_hash, ends_hash, in_hash, in_delim}
use Rattle.items.specs.Readers.{read_line, lined_of, scalar_of, past_failing, read_word, read_run, bool_kind, quote_kind, form_kind, hash_kind}
use Rattle.items.specs.Readers.{hash_bracket, hash_at, hash_comma, unreturned, ends_with, here_ends, here_body, here_delim, after_angle}
use Rattle.items.specs.Readers.{read_hash, read_comma, read_item, read_nest, read_quoted, read_word_on, hash_on}
use Rattle.items.specs.Meaning.{lookup, words, word_kind, word_means, run_means, escaped, string_text, lined_text, here_text, char_names}
use Rattle.items.specs.Meaning.{is_delimiter, nameless, hex_named, spelled_out, character_of, unescape}
use Rattle.items.specs.Items.{extent_items}
use Rattle.lexer.specs.Opening.{line_end, after_hash as after_pound, start_of}
use Rattle.lexer.specs.Reading.{turn_from, turn, next_from, next_at}
use Rattle.findings_rows.specs.Mended.{slips, closing, mended_at, mended_from, mended_of}
use Rattle.findings_rows.specs.Rows.{rows_from, rows_of}

-- a row of a kind with a detail, its extent and the depth
abbrev fine : ℕ → ℕ → ℕ → ℕ → ℕ → List ℕ
fine k d s e depth = k ∷ d ∷ s ∷ e ∷ s ∷ e ∷ 0 ∷ 0 ∷ 0 ∷ depth ∷ []

-- the row of an error: its number and detail, its extent, its place and the depth
abbrev wrong : ℕ → ℕ → ℕ → ℕ → ℕ → ℕ → ℕ → List ℕ
wrong n d s e a b depth = kind.Identifier ∷ 0 ∷ s ∷ e ∷ a ∷ b ∷ n ∷ d ∷ 0 ∷ depth ∷ []

abbrev name : ℕ → ℕ → List ℕ
name s e = fine kind.Identifier 0 s e 0

record Example : Type 0 where
  text : List ℕ
  rows : List (List ℕ)

abbrev plan : String → List (List ℕ) → Example
plan t r = record { text = bytes_of (codes t); rows = r }

unfoldable table : List Example
table =
    plan "" []
    -- two rows with one extent; comments are skipped
    ∷ plan "+foo ;a" (name 0 4 ∷ name 0 4 ∷ [])
    ∷ plan "(a [" (fine kind.OpenParen 0 0 1 0 ∷ fine kind.Identifier 0 1 2 1 ∷ fine kind.OpenParen kind.Square 3 4 1 ∷ [])
    ∷ plan "1/0 a" (wrong kind.ZeroDenominator 0 0 3 0 3 0 ∷ name 4 5 ∷ [])
    -- a slip: the extent goes up to behind the closing quote, the place stays
    ∷ plan "\"\\q\" a" (wrong kind.InvalidStringEscape (code "q") 0 4 1 3 0 ∷ name 5 6 ∷ [])
    ∷ plan "|a\\qb| c" (wrong kind.InvalidStringEscape (code "q") 0 6 2 4 0 ∷ name 7 8 ∷ [])
    ∷ plan "\"\\ \" a" (wrong kind.InvalidWhitespace 0 0 4 3 4 0 ∷ name 5 6 ∷ [])
    -- a backslash takes the next byte with it
    ∷ plan "\"a\\\"\\q\\\"\" b" (wrong kind.InvalidStringEscape (code "q") 0 9 4 6 0 ∷ name 10 11 ∷ [])
    ∷ plan "(a \"\\x4G1;\" b)"
    (fine kind.OpenParen 0 0 1 0
    ∷ fine kind.Identifier 0 1 2 1
    ∷ wrong kind.InvalidHexEscapeLiteral 2 3 11 7 8 1
    ∷ fine kind.Identifier 0 12 13 1
    ∷ fine kind.CloseParen 0 13 14 1
    ∷ [])
    -- what breaks off the digits is the closing quote, or a backslash
    ∷ plan "\"\\x4\" b" (wrong kind.UnclosedHexEscape (code ";") 0 5 1 4 0 ∷ name 6 7 ∷ [])
    ∷ plan "\"\\x4\\\"\" b" (wrong kind.UnclosedHexEscape (code ";") 0 7 1 4 0 ∷ name 8 9 ∷ [])
    -- there is no closing quote
    ∷ plan "(\"\\q" (fine kind.OpenParen 0 0 1 0 ∷ wrong kind.IncompleteString 0 1 4 1 4 1 ∷ [])
    ∷ plan "|a\\q (b" (wrong kind.IncompleteIdentifier 0 0 7 0 7 0 ∷ [])
    -- a character is no slip
    ∷ plan "#\\xD800 a" (wrong kind.InvalidHexCodePoint 0xD800 0 7 0 7 0 ∷ name 8 9 ∷ [])
    ∷ []

computed : map (λ r. rows_of r.text) table ≡ map (λ r. r.rows) table
-- the list only permits the computing
unfolding table sequences chars span starts begins same is_scalar utf8 width encode bytes_of is_blank within first rest front digit_of sign uinteger value fit signed whole_of integer hex_digits hex_after_plus hex_value exponent_marker exponent suffix point_of dotted undotted decimal infnan integral_of rational_of denominator exact or_else ureal real just_of complex_of polar_of ends_i imaginary alone_of pair_of to_sign starts_e rectangular complex zero_int zero_real zero_parts judged radix_mark prefix parse_number starts_run first_of in_quotes after_backslash stops_hex in_hex in_trim in_nest breaks_word in_word stays_run ends_run in_run after_hash ends_hash in_hash in_delim read_line lined_of scalar_of past_failing read_word read_run bool_kind quote_kind form_kind hash_kind hash_bracket hash_at hash_comma unreturned ends_with here_ends here_body here_delim after_angle read_hash read_comma read_item read_nest read_quoted read_word_on hash_on lookup words word_kind word_means run_means escaped string_text lined_text here_text char_names is_delimiter nameless hex_named spelled_out character_of unescape extent_items line_end after_pound start_of turn_from turn next_from next_at slips closing mended_at mended_from mended_of rows_from
computed = refl
