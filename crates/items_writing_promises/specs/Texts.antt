-- What is written for records, whole answers by computation: `items_writing::write` ensures
-- `call (answered r) out' ≡ write_of records source text out`.
use Rattle.std.specs.Prelude.{ℕ, ◌≡◌, refl, List, ◌++◌}
use Rattle.laws.specs.Quoted.{within}
use Rattle.laws.specs.Texts.{span, starts, begins, same}
use Rattle.chars.specs.Encode.{is_scalar, utf8, width, encode, bytes_of}
use Rattle.chars.specs.Blank.{is_blank}
use Rattle.chars.specs.Utf8.{first, rest, front, sequences, chars, first_bad}
use Rattle.digits.specs.Digits.{digit_of, sign, uinteger, value, fit, signed, whole_of, integer}
use Rattle.digits.specs.Hex.{hex_digits, hex_after_plus, hex_value}
use Rattle.numbers.specs.Reals.{exponent_marker, exponent, suffix, point_of, dotted, undotted, decimal, infnan, integral_of, rational_of, denominator, exact, or_else, ureal, real}
use Rattle.numbers.specs.Grammar.{just_of, complex_of, polar_of, ends_i, imaginary, alone_of, pair_of, to_sign, starts_e, rectangular, complex}
use Rattle.numbers.specs.Grammar.{zero_int, zero_real, zero_parts, judged, radix_mark, prefix, parse_number}
use Rattle.items.specs.Kinds as kind
use Rattle.items.specs.Classes.{starts_run, first_of, in_quotes, after_backslash, stops_hex, in_hex, in_trim, in_nest, breaks_word, in_word, stays_run, ends_run, in_run, after_hash, ends_hash, in_hash, in_delim}
use Rattle.items.specs.Readers.{read_line, lined_of, scalar_of, past_failing, read_word, read_run, bool_kind, quote_kind, form_kind, hash_kind}
use Rattle.items.specs.Readers.{hash_bracket, hash_at, hash_comma, unreturned, ends_with, here_ends, here_body, here_delim, after_angle, read_hash}
use Rattle.items.specs.Readers.{read_comma, read_item, read_nest, read_quoted, read_word_on, hash_on}
use Rattle.items.specs.Meaning.{lookup, words, word_kind, word_means, run_means, escaped, string_text, lined_text, here_text, char_names, is_delimiter, nameless, hex_named, spelled_out, character_of, unescape}
use Rattle.items.specs.Items.{extent_items, items_from, past_line, after_pound, items}
use Rattle.items_writing.specs.Written.{escape, quoted, bare, splits, identifier, word_of, twins, joined, written}
use Rattle.items_writing.specs.Records.{records_from, is_whole, is_kind, has_text, text_right, is_right, is_left, judge, text_of}
use Rattle.items_writing.specs.Call.{deliver, write_within}
use Rattle.items_writing_promises.specs.Shapes as shapes
use Rattle.items_writing_promises.specs.Shapes.{record_of, name, renamed, writing, wrote}

pub record Rows : Type 0 where
  -- a backslash before a backslash and before the closing mark, in quotes and in vertical lines
  pub string_backslash : writing (record_of kind.StringLiteral 0 2 2 0 2) "\"\"" "a\\" ≡ wrote "\"a\\\\\""
  pub string_mark : writing (record_of kind.StringLiteral 0 2 2 0 2) "\"\"" "\"a" ≡ wrote "\"\\\"a\""
  pub line_mark : writing (renamed 0 1 0 3) "x" "a |" ≡ wrote "|a \\||"
  -- and no other escape: a newline stays as it is, and in quotes so does a vertical line
  pub no_escape : writing (record_of kind.StringLiteral 0 2 2 0 2) "\"\"" "\n|" ≡ wrote "\"\n|\""
  -- first in the text `#!a` would be a line that is passed over
  pub first_line : writing (renamed 0 1 0 3 ++ renamed 0 1 0 3) "x" "#!a" ≡ wrote "|#!a| #!a"
  -- `a\` takes what follows with it, so that it is bare only at the end
  pub open_backslash : writing (renamed 0 1 0 2 ++ renamed 0 1 0 2) "x" "a\\" ≡ wrote "|a\\\\| a\\"
  -- a name that reads as a number, and one that reads as nothing
  pub number_name_holds : writing (renamed 0 1 0 1 ++ renamed 0 1 0 0) "x" "1" ≡ wrote "|1| ||"
  -- a pair is one word, where that word reads back as the pair; the one of `+12,5` does not, nor do a plus and a name that stand apart
  pub pair : writing (name 0 4 0 1 ++ name 0 4 1 4) "+foo" "" ≡ wrote "+foo"
  pub pair_of_number : writing (name 0 3 0 1 ++ name 0 3 1 3 ++ shapes.bare kind.Unquote 3 4 ++ shapes.bare kind.Number 4 5) "+12,5" "" ≡ wrote "+ |12| , 5"
  pub no_pair : writing (name 0 1 0 1 ++ name 2 5 2 5) "+ foo" "" ≡ wrote "+ foo"
  -- any other item is its extent's bytes
  pub extents : writing (shapes.bare kind.OpenParen 0 4 ++ shapes.bare kind.Number 4 6 ++ shapes.bare kind.CloseParen 6 7) "#u8(07)" "" ≡ wrote "#u8( 07 )"

pub rows : Rows
-- the list only permits the computing
unfolding first_bad sequences chars span starts begins same is_scalar utf8 width encode bytes_of is_blank within first rest front digit_of sign
    uinteger value fit signed whole_of integer hex_digits hex_after_plus hex_value exponent_marker exponent suffix point_of dotted undotted decimal
    infnan integral_of rational_of denominator exact or_else ureal real just_of complex_of polar_of ends_i imaginary alone_of pair_of to_sign starts_e
    rectangular complex zero_int zero_real zero_parts judged radix_mark prefix parse_number starts_run first_of in_quotes after_backslash stops_hex
    in_hex in_trim in_nest breaks_word in_word stays_run ends_run in_run after_hash ends_hash in_hash in_delim read_line lined_of scalar_of past_failing
    read_word read_run bool_kind quote_kind form_kind hash_kind hash_bracket hash_at hash_comma unreturned ends_with here_ends here_body here_delim
    after_angle read_hash read_comma read_item read_nest read_quoted read_word_on hash_on lookup words word_kind word_means run_means escaped string_text
    lined_text here_text char_names is_delimiter nameless hex_named spelled_out character_of unescape extent_items items_from past_line after_pound
    items escape quoted bare splits identifier word_of twins joined written records_from is_whole is_kind has_text text_right is_right is_left
    judge text_of deliver write_within
rows = record {
  string_backslash = refl;
  string_mark = refl;
  line_mark = refl;
  no_escape = refl;
  first_line = refl;
  open_backslash = refl;
  number_name_holds = refl;
  pair = refl;
  pair_of_number = refl;
  no_pair = refl;
  extents = refl;
}
