-- The whole-text call in report mode, `lexer::read` and for C `mihadrena_read`: its answer and both memories are `read_of`'s, and C gets
-- `read_number` and `read_values` of the answer.
use Rattle.std.specs.Prelude.{ℕ, ◌≡◌, refl, false, List, [], ◌∷◌, ◌++◌}
use Rattle.laws.specs.Texts.{span, starts, begins, same}
use Rattle.laws.specs.Quoted.{code, within}
use Rattle.chars.specs.Encode.{is_scalar, utf8, width, encode, bytes_of, spelled}
use Rattle.chars.specs.Blank.{is_blank}
use Rattle.chars.specs.Utf8.{first, rest, front, first_bad, sequences, chars}
use Rattle.digits.specs.Digits.{digit_of, sign, uinteger, value, fit, signed, whole_of, integer}
use Rattle.digits.specs.Hex.{hex_digits, hex_after_plus, hex_value}
use Rattle.numbers.specs.Reals.{exponent_marker, exponent, suffix, point_of, dotted, undotted, decimal, infnan, integral_of, rational_of, denominator, exact, or_else, ureal, real}
use Rattle.numbers.specs.Grammar.{just_of, complex_of, polar_of, ends_i, imaginary, alone_of, pair_of, to_sign, starts_e, rectangular, complex}
use Rattle.numbers.specs.Grammar.{zero_int, zero_real, zero_parts, judged, radix_mark, prefix, parse_number}
use Rattle.items.specs.Kinds as kind
use Rattle.items.specs.Classes.{starts_run, first_of, in_quotes, after_backslash, stops_hex, in_hex, in_trim, in_nest, breaks_word, in_word, stays_run, ends_run, in_run, after_hash, ends_hash, in_hash, in_delim}
use Rattle.items.specs.Readers.{read_line, lined_of, scalar_of, past_failing, read_word, read_run, bool_kind, quote_kind, form_kind, hash_kind}
use Rattle.items.specs.Readers.{hash_bracket, hash_at, hash_comma, unreturned, ends_with, here_ends, here_body, here_delim, after_angle, read_hash}
use Rattle.items.specs.Readers.{read_comma, read_item, read_nest, read_quoted, read_word_on, hash_on}
use Rattle.items.specs.Meaning.{lookup, words, word_kind, word_means, run_means, escaped, string_text, lined_text, here_text, char_names, is_delimiter, nameless, hex_named, spelled_out, character_of, unescape}
use Rattle.items.specs.Items.{extent_items, items_from, past_line, after_pound, items, kept, records, texts}
use Rattle.items.specs.Whole.{served, Call, call, deliver, read_of}
use Rattle.items_promises.specs.Shapes.{room, words_for, bare, texted, error, deep}
use Rattle.exports.specs.Read.{read_number, read_values}

-- report mode, comments kept, with memory for two records and no text
abbrev reported : List ℕ → Call
reported source = read_of source 1 false (room (words_for 2)) []

-- E10
abbrev pub tenth : List ℕ
tenth = spelled "\"\\xD800;\""

pub record Rows : Type 0 where
  -- E10: the second error points at its own place
  pub own_place : reported tenth ≡ call (served 2 0) (error kind.InvalidHexCodePoint 0xD800 0 8 1 8 ++ error kind.IncompleteString 0 8 9 8 9) []
  -- a number ends at a vertical line
  pub bar : reported (spelled "12|a|") ≡ call (served 2 0) (bare kind.Number 0 0 2 ++ texted kind.Identifier 2 5 1 3 4) []
  -- the digit that fails, one bracket deep
  pub failing : reported (spelled "(\"\\x4G1;") ≡ call (served 2 0) (bare kind.OpenParen kind.Round 0 1 ++ deep 1 (error kind.InvalidHexEscapeLiteral 2 1 8 5 6)) []
  -- as C gets it
  pub bar_told : read_number (reported (spelled "12|a|")).answer ∷ read_values (reported (spelled "12|a|")).answer ≡ 0 ∷ 2 ∷ 0 ∷ []

rows : Rows
-- the list only permits the computing
unfolding read_of deliver first_bad sequences chars span starts begins same is_scalar utf8 width encode bytes_of is_blank within first rest front
    digit_of sign uinteger value fit signed whole_of integer hex_digits hex_after_plus hex_value exponent_marker exponent suffix point_of dotted
    undotted decimal infnan integral_of rational_of denominator exact or_else ureal real just_of complex_of polar_of ends_i imaginary alone_of
    pair_of to_sign starts_e rectangular complex zero_int zero_real zero_parts judged radix_mark prefix parse_number starts_run first_of in_quotes
    after_backslash stops_hex in_hex in_trim in_nest breaks_word in_word stays_run ends_run in_run after_hash ends_hash in_hash in_delim read_line lined_of
    scalar_of past_failing read_word read_run bool_kind quote_kind form_kind hash_kind hash_bracket hash_at hash_comma unreturned ends_with here_ends
    here_body here_delim after_angle read_hash read_comma read_item read_nest read_quoted read_word_on hash_on lookup words word_kind word_means run_means
    escaped string_text lined_text here_text char_names is_delimiter nameless hex_named spelled_out character_of unescape extent_items items_from
    past_line after_pound items kept records texts read_number read_values
rows = record { own_place = refl; bar = refl; failing = refl; bar_told = refl }
