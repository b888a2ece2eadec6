-- One item a call: `mihadrena_reader_next` ensures `left r memory' ≡ next_left source memory`, the memory being the position's words, the text
-- memory, the words of a record and the values.
use Rattle.std.specs.Prelude.{ℕ, ◌≡◌, refl, List, [], ◌∷◌, ◌++◌}
use Rattle.laws.specs.Texts.{span, starts, begins, same}
use Rattle.laws.specs.Quoted.{within}
use Rattle.chars.specs.Encode.{is_scalar, utf8, width, encode, bytes_of, spelled, lay}
use Rattle.chars.specs.Blank.{is_blank}
use Rattle.chars.specs.Utf8.{first, rest, front, sequences, chars}
use Rattle.digits.specs.Digits.{digit_of, sign, uinteger, value, signed, whole_of, integer}
use Rattle.numbers.specs.Reals.{exponent_marker, exponent, suffix, point_of, dotted, undotted, decimal, infnan, integral_of, rational_of, denominator, exact, or_else, ureal, real}
use Rattle.numbers.specs.Grammar.{just_of, complex_of, polar_of, ends_i, imaginary, alone_of, pair_of, to_sign, starts_e, rectangular, complex}
use Rattle.numbers.specs.Grammar.{zero_int, zero_real, zero_parts, judged, radix_mark, prefix, parse_number}
use Rattle.items.specs.Kinds as kind
use Rattle.items.specs.Classes.{starts_run, first_of, in_quotes, after_backslash, stops_hex, in_hex, in_trim, breaks_word, in_word, stays_run, ends_run, in_run, after_hash, ends_hash, in_hash}
use Rattle.items.specs.Readers.{read_line, lined_of, read_word, read_run, bool_kind, quote_kind, form_kind, hash_kind, hash_bracket, hash_at, hash_comma, read_hash, read_item, read_quoted, read_word_on, hash_on}
use Rattle.items.specs.Meaning.{lookup, words, word_kind, word_means, run_means, escaped, string_text, lined_text, char_names, is_delimiter, nameless, spelled_out, character_of, unescape}
use Rattle.items.specs.Items.{extent_items}
use Rattle.lexer.specs.Answers.{give_of, next_of}
use Rattle.lexer.specs.Reading.{turn_from, turn, next_from, next_at}
use Rattle.reader_exports.specs.Words.{is_position}
use Rattle.reader_exports.specs.Reader.{Memory, memory, left, next_left}
use Rattle.reader_exports_promises.specs.Shapes.{room, at, none, bare, texted}

-- the memory of a call at some words, with so much text memory, just the words of a record, and two values
abbrev pub lent : List ℕ → ℕ → Memory
lent w n = memory w (room n) (room 10) (room 2)

pub record Rows : Type 0 where
  -- the item, and the position after it; at its depth, and one deeper after a bracket; the end, and the position that stays
  pub first_item : next_left (spelled "a [") (lent (at 0 0) 0) ≡ left 10 (memory (at 1 0) [] (texted kind.Identifier 0 1 1 0 1 0) none)
  pub deep : next_left (spelled "a [") (lent (at 1 3) 0) ≡ left 10 (memory (at 3 4) [] (bare kind.OpenParen kind.Square 2 3 3) none)
  pub end : next_left (spelled "a [") (lent (at 3 1) 1) ≡ left 12 (memory (at 3 1) (room 1) (room 10) none)
  -- a decoded text from 0 on; too little room: 22 with 1 and its bytes, and everything stays
  pub decoded : next_left (spelled "\"\\n\"") (lent (at 0 0) 2) ≡ left 10 (memory (at 4 0) (spelled "\n" ++ room 1) (texted kind.StringLiteral 0 4 2 0 1 0) none)
  pub no_room : next_left (spelled "\"\\n\\n\"") (lent (at 0 0) 1) ≡ left 22 (memory (at 0 0) (room 1) (room 10) (1 ∷ 2 ∷ []))
  -- too few words for a record, or too few values
  pub few_words : next_left (spelled "a") (memory (at 0 0) [] (room 9) (room 2)) ≡ left 22 (memory (at 0 0) [] (room 9) (1 ∷ 0 ∷ []))
  pub one_value : next_left (spelled "a") (memory (at 0 0) [] (room 10) (room 1)) ≡ left 22 (memory (at 0 0) [] (room 10) (room 1))
  -- words that are no position: not seven, no yes or no, a depth of 33 bits
  pub six : next_left (spelled "a") (lent (room 6) 0) ≡ left 27 (memory (room 6) [] (room 10) none)
  pub no_flag : next_left (spelled "a") (lent (0 ∷ 0 ∷ 0 ∷ 2 ∷ 0 ∷ 0 ∷ 0 ∷ []) 0) ≡ left 27 (memory (0 ∷ 0 ∷ 0 ∷ 2 ∷ 0 ∷ 0 ∷ 0 ∷ []) [] (room 10) none)
  pub too_deep_holds : next_left (spelled "a") (lent (at 0 4294967296) 0) ≡ left 27 (memory (at 0 4294967296) [] (room 10) none)

pub rows : Rows
-- the list only permits the computing
unfolding span starts begins same within is_scalar utf8 width encode bytes_of lay is_blank first rest front sequences chars digit_of sign
    uinteger value signed whole_of integer exponent_marker exponent suffix point_of dotted undotted decimal infnan integral_of rational_of
    denominator exact or_else ureal real just_of complex_of polar_of ends_i imaginary alone_of pair_of to_sign starts_e rectangular complex zero_int
    zero_real zero_parts judged radix_mark prefix parse_number starts_run first_of in_quotes after_backslash stops_hex in_hex in_trim breaks_word in_word
    stays_run ends_run in_run after_hash ends_hash in_hash read_line lined_of read_word read_run bool_kind quote_kind form_kind hash_kind hash_bracket
    hash_at hash_comma read_hash read_item read_quoted read_word_on hash_on lookup words word_kind word_means run_means escaped string_text lined_text
    char_names is_delimiter nameless spelled_out character_of unescape extent_items give_of next_of turn_from turn next_from next_at is_position
    next_left
rows = record {
  first_item = refl;
  deep = refl;
  end = refl;
  decoded = refl;
  no_room = refl;
  few_words = refl;
  one_value = refl;
  six = refl;
  no_flag = refl;
  too_deep_holds = refl;
}
