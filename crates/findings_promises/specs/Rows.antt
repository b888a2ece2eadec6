-- Whole answers of `findings_rows::rows`, with the memory: it ensures `laid r words' ≡ all_laid (rows_of source) words`.
use Rattle.std.specs.Prelude.{ℕ, ◌≡◌, refl, List, [], ◌∷◌, ◌++◌, replicate}
use Rattle.laws.specs.Quoted.{code, codes, within}
use Rattle.items.specs.Kinds as kind
use Rattle.laws.specs.Texts.{span, starts, begins, same}
use Rattle.chars.specs.Encode.{is_scalar, utf8, width, encode, bytes_of}
use Rattle.chars.specs.Blank.{is_blank}
use Rattle.chars.specs.Utf8.{first, rest, front, sequences, chars}
use Rattle.digits.specs.Digits.{digit_of, sign, uinteger, value, fit, signed, whole_of, integer}
use Rattle.digits.specs.Hex.{hex_digits, hex_after_plus, hex_value}
use Rattle.numbers.specs.Reals.{exponent_marker, exponent, suffix, point_of, dotted, undotted, decimal, infnan, integral_of, rational_of, denominator, exact, or_else, ureal, real}
use Rattle.numbers.specs.Grammar.{just_of, complex_of, polar_of, ends_i, imaginary, alone_of, pair_of, to_sign, starts_e, rectangular, complex}
use Rattle.numbers.specs.Grammar.{zero_int, zero_real, zero_parts, judged, radix_mark, prefix, parse_number}
use Rattle.items.specs.Classes.{starts_run, first_of, in_quotes, after_backslash, stops_hex, in_hex, in_trim, in_nest, breaks_word, in_word, stays_run, ends_run, in_run, after_hash, ends_hash, in_hash, in_delim}
use Rattle.items.specs.Readers.{read_line, lined_of, scalar_of, past_failing, read_word, read_run, bool_kind, quote_kind, form_kind, hash_kind}
use Rattle.items.specs.Readers.{hash_bracket, hash_at, hash_comma, unreturned, ends_with, here_ends, here_body, here_delim, after_angle}
use Rattle.items.specs.Readers.{read_hash, read_comma, read_item, read_nest, read_quoted, read_word_on, hash_on}
use Rattle.items.specs.Meaning.{lookup, words, word_kind, word_means, run_means, escaped, string_text, lined_text, here_text, char_names}
use Rattle.items.specs.Meaning.{is_delimiter, nameless, hex_named, spelled_out, character_of, unescape}
use Rattle.items.specs.Items.{extent_items}
use Rattle.lexer.specs.Opening.{line_end, after_hash as after_pound, start_of}
use Rattle.lexer.specs.Reading.{turn_from, turn, next_from, next_at}
use Rattle.findings_rows.specs.Laid.{laid_rows, laid, all_laid}
use Rattle.findings_rows.specs.Mended.{slips, closing, mended_at, mended_from, mended_of}
use Rattle.findings_rows.specs.Rows.{rows_from, rows_of}

-- a name's row, and an error's: its number and detail, its extent and its place
abbrev name : ℕ → ℕ → List ℕ
name s e = kind.Identifier ∷ 0 ∷ s ∷ e ∷ s ∷ e ∷ 0 ∷ 0 ∷ 0 ∷ 0 ∷ []

abbrev wrong : ℕ → ℕ → ℕ → ℕ → ℕ → ℕ → List ℕ
wrong n d s e a b = kind.Identifier ∷ 0 ∷ s ∷ e ∷ a ∷ b ∷ n ∷ d ∷ 0 ∷ 0 ∷ []

-- lent memory
abbrev nines : ℕ → List ℕ
nines n = replicate n 9

-- what the call answers for a text and so many words
abbrev RowsIn : List ℕ → ℕ → List ℕ → ℕ → Type 0
RowsIn text room words n = laid n words ≡ all_laid (rows_of text) (nines room)

pub record Rows : Type 0 where
  -- the rest of a string after a bad escape is no more errors; all past the last row stays
  pub slip : RowsIn (bytes_of (codes "\"\\q\" a")) 22 (wrong kind.InvalidStringEscape (code "q") 0 4 1 3 ++ name 5 6 ++ nines 2) 2
  -- the closing quote is missing
  pub unclosed : RowsIn (bytes_of (codes "\"\\q a")) 10 (wrong kind.IncompleteString 0 0 5 0 5) 1
  -- a row is written whole or not at all, and counted all the same
  pub short : RowsIn (bytes_of (codes "a b")) 19 (name 0 1 ++ nines 9) 2
  -- a character is no slip
  pub character : RowsIn (bytes_of (codes "#\\xD800 \"")) 20 (wrong kind.InvalidHexCodePoint 0xD800 0 7 0 7 ++ wrong kind.IncompleteString 0 8 9 8 9) 2

rows : Rows
-- the list only permits the computing
unfolding sequences chars span starts begins same is_scalar utf8 width encode bytes_of is_blank within first rest front digit_of sign uinteger value fit signed whole_of integer hex_digits hex_after_plus hex_value exponent_marker exponent suffix point_of dotted undotted decimal infnan integral_of rational_of denominator exact or_else ureal real just_of complex_of polar_of ends_i imaginary alone_of pair_of to_sign starts_e rectangular complex zero_int zero_real zero_parts judged radix_mark prefix parse_number starts_run first_of in_quotes after_backslash stops_hex in_hex in_trim in_nest breaks_word in_word stays_run ends_run in_run after_hash ends_hash in_hash in_delim read_line lined_of scalar_of past_failing read_word read_run bool_kind quote_kind form_kind hash_kind hash_bracket hash_at hash_comma unreturned ends_with here_ends here_body here_delim after_angle read_hash read_comma read_item read_nest read_quoted read_word_on hash_on lookup words word_kind word_means run_means escaped string_text lined_text here_text char_names is_delimiter nameless hex_named spelled_out character_of unescape extent_items line_end after_pound start_of turn_from turn next_from next_at slips closing mended_at mended_from mended_of rows_from laid_rows
rows = record { slip = refl; unclosed = refl; short = refl; character = refl }
