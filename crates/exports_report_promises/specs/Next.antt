-- One item a call in report mode: `lexer::next_at` ensures `replied (reply_of r) text' ≡ next_of source position text`, `reader::next` that
-- `moved (given_of t) reader' text' ≡ next_for reader text`, and `mihadrena_reader_next` that `left r memory' ≡ next_left source memory`.
use Rattle.std.specs.Prelude.{ℕ, ◌+◌, ◌≡◌, refl, true, false, List, [], ◌∷◌}
use Rattle.std.specs.Borrow.{Bor}
use Rattle.laws.specs.Texts.{span, starts, begins, same}
use Rattle.laws.specs.Quoted.{within}
use Rattle.chars.specs.Encode.{is_scalar, utf8, width, encode, bytes_of, spelled, lay}
use Rattle.digits.specs.Hex.{hex_digits, hex_after_plus, hex_value}
use Rattle.chars.specs.Blank.{is_blank}
use Rattle.chars.specs.Utf8.{first, rest, front, sequences, chars}
use Rattle.digits.specs.Digits.{digit_of, sign, uinteger, value, signed, whole_of, integer}
use Rattle.numbers.specs.Reals.{exponent_marker, exponent, suffix, point_of, dotted, undotted, decimal, infnan, integral_of, rational_of, denominator, exact, or_else, ureal, real}
use Rattle.numbers.specs.Grammar.{just_of, complex_of, polar_of, ends_i, imaginary, alone_of, pair_of, to_sign, starts_e, rectangular, complex}
use Rattle.numbers.specs.Grammar.{zero_int, zero_real, zero_parts, judged, radix_mark, prefix, parse_number}
use Rattle.items.specs.Kinds as kind
use Rattle.items.specs.Classes.{starts_run, first_of, in_quotes, after_backslash, stops_hex, in_hex, in_trim, breaks_word, in_word, stays_run, ends_run, in_run, after_hash, ends_hash, in_hash}
use Rattle.items.specs.Readers.{read_line, lined_of, scalar_of, past_failing, read_word, read_run, bool_kind, quote_kind, form_kind, hash_kind, hash_bracket, hash_at}
use Rattle.items.specs.Readers.{hash_comma, read_hash, read_item, read_quoted, read_word_on, hash_on}
use Rattle.items.specs.Meaning.{lookup, words, word_kind, word_means, run_means, escaped, string_text, lined_text, char_names, is_delimiter, nameless, hex_named, spelled_out, character_of, unescape}
use Rattle.items.specs.Items.{Place, range, unset, extent_items}
use Rattle.meaning.specs.Places.{range_of}
use Rattle.lexer.specs.Answers.{item, replied, position_at, give_of, next_of}
use Rattle.lexer.specs.Reading.{turn_from, turn, next_from, next_at}
use Rattle.lexer.specs.declared.Position.{Position}
use Rattle.reader.specs.Reading.{gives, step_of, moved, reading, next_for}
use Rattle.reader.specs.Calls.{call_after_call}
use Rattle.reader.specs.declared.Reader.{Reader}
use Rattle.reader_exports.specs.Words.{is_position}
use Rattle.reader_exports.specs.Reader.{Memory, memory, left, next_left}
use Rattle.items_promises.specs.Shapes.{room, bare, texted, error, deep}
use Rattle.exports_report_promises.specs.Read.{tenth}

-- a position in report mode with a last error range and so many brackets open, comments kept; as a value, and as C's words
abbrev at : ℕ → Place → ℕ → Position
at n last depth = position_at (record { at = n; last = range_of last; second = false; report = true; skip = false }) depth

abbrev words_at : ℕ → Place → ℕ → List ℕ
words_at n last depth = n ∷ last.from ∷ last.to ∷ 0 ∷ 1 ∷ 0 ∷ depth ∷ []

-- a reader of a text there, wherever the text lies
abbrev reads : Bor (List ℕ) → List ℕ → ℕ → Place → ℕ → Reader
reads r text n last depth = reading (record { ref_ptr = r.ref_ptr; now = text }) (at n last depth)

-- the memory of a call for C: no text memory, the words of a record, and two values
abbrev lent : List ℕ → Memory
lent w = memory w [] (room 10) (room 2)

-- E10: its second error, after the first one's range; a number before a vertical line; a digit that fails, three brackets deep
pub record Rows (r : Bor (List ℕ)) : Type 0 where
  pub next_own : next_of tenth (at 8 (range 1 8) 0) [] ≡ replied (item (error kind.IncompleteString 0 8 9 8 9) (at 9 (range 1 8) 0)) []
  pub next_bar : next_of (spelled "12|a|") (at 0 unset 0) [] ≡ replied (item (bare kind.Number 0 0 2) (at 2 unset 0)) []
  pub next_failing : next_of (spelled "\"\\x4G1;") (at 0 unset 3) [] ≡ replied (item (deep 3 (error kind.InvalidHexEscapeLiteral 2 0 7 4 5)) (at 7 (range 4 5) 3)) []
  pub reader_own : next_for (reads r tenth 8 (range 1 8) 0) [] ≡ moved (gives (error kind.IncompleteString 0 8 9 8 9)) (reads r tenth 9 (range 1 8) 0) []
  pub reader_bar : next_for (reads r (spelled "12|a|") 0 unset 0) [] ≡ moved (gives (bare kind.Number 0 0 2)) (reads r (spelled "12|a|") 2 unset 0) []
  pub reader_failing : next_for (reads r (spelled "\"\\x4G1;") 0 unset 3) []
      ≡ moved (gives (deep 3 (error kind.InvalidHexEscapeLiteral 2 0 7 4 5))) (reads r (spelled "\"\\x4G1;") 7 (range 4 5) 3) []
  pub words_own : next_left tenth (lent (words_at 8 (range 1 8) 0)) ≡ left 10 (memory (words_at 9 (range 1 8) 0) [] (error kind.IncompleteString 0 8 9 8 9) (0 ∷ 0 ∷ []))
  pub words_bar : next_left (spelled "12|a|") (lent (words_at 0 unset 0)) ≡ left 10 (memory (words_at 2 unset 0) [] (bare kind.Number 0 0 2) (0 ∷ 0 ∷ []))
  pub words_failing : next_left (spelled "\"\\x4G1;") (lent (words_at 0 unset 3))
      ≡ left 10 (memory (words_at 7 (range 4 5) 3) [] (deep 3 (error kind.InvalidHexEscapeLiteral 2 0 7 4 5)) (0 ∷ 0 ∷ []))

rows : (r : Bor (List ℕ)) → Rows r
-- the list only permits the computing
unfolding span starts begins same within is_scalar utf8 width encode bytes_of is_blank first rest front sequences chars digit_of sign uinteger
    value signed whole_of integer exponent_marker exponent suffix point_of dotted undotted decimal infnan integral_of rational_of
    denominator exact or_else ureal real just_of complex_of polar_of ends_i imaginary alone_of pair_of to_sign starts_e rectangular complex
    zero_int zero_real zero_parts judged radix_mark prefix parse_number starts_run first_of in_quotes after_backslash stops_hex in_hex in_trim
    breaks_word in_word stays_run ends_run in_run after_hash ends_hash in_hash read_line lined_of read_word read_run bool_kind quote_kind form_kind
    hash_kind hash_bracket hash_at hash_comma read_hash read_item read_quoted read_word_on hash_on lookup words word_kind word_means run_means
    escaped string_text lined_text char_names is_delimiter nameless spelled_out character_of unescape extent_items give_of next_of turn_from
    turn next_from next_at step_of next_for call_after_call hex_digits hex_after_plus hex_value scalar_of past_failing hex_named lay is_position
    next_left
rows r = record {
  next_own = refl;
  next_bar = refl;
  next_failing = refl;
  reader_own = refl;
  reader_bar = refl;
  reader_failing = refl;
  words_own = refl;
  words_bar = refl;
  words_failing = refl;
}
