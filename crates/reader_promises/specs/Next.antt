-- One item a call: `reader::next` ensures `moved (given_of t) reader' text' ≡ next_for reader text`.
use Rattle.std.specs.Prelude.{ℕ, ◌<◌, ◌≡◌, refl, false, List, [], ◌∷◌, ◌++◌, length}
use Rattle.std.proofs.Common.{lt-ltb}
use Rattle.std.specs.Borrow.{Bor}
use Rattle.items_promises.specs.Shapes.{room, bare, texted, deep}
use Rattle.laws.specs.Texts.{span, starts, begins, same}
use Rattle.laws.specs.Quoted.{within}
use Rattle.chars.specs.Encode.{is_scalar, utf8, width, encode, bytes_of, spelled}
use Rattle.chars.specs.Blank.{is_blank}
use Rattle.chars.specs.Utf8.{first, rest, front, sequences, chars}
use Rattle.digits.specs.Digits.{digit_of, sign, uinteger, value, signed, whole_of, integer}
use Rattle.numbers.specs.Reals.{exponent_marker, exponent, suffix, point_of, dotted, undotted, decimal, infnan, integral_of, rational_of, denominator, exact, or_else, ureal, real}
use Rattle.numbers.specs.Grammar.{just_of, complex_of, polar_of, ends_i, imaginary, alone_of, pair_of, to_sign, starts_e, rectangular, complex}
use Rattle.numbers.specs.Grammar.{zero_int, zero_real, zero_parts, judged, radix_mark, prefix, parse_number}
use Rattle.items.specs.Kinds as kind
use Rattle.items.specs.Classes.{starts_run, first_of, in_quotes, after_backslash, stops_hex, in_hex, in_trim, breaks_word, in_word, stays_run, ends_run, in_run, after_hash, ends_hash, in_hash}
use Rattle.items.specs.Readers.{read_line, lined_of, read_word, read_run, bool_kind, quote_kind, form_kind, hash_kind, hash_bracket, hash_at, hash_comma, read_hash, read_item, read_quoted, read_word_on, hash_on}
use Rattle.items.specs.Meaning.{lookup, words, word_kind, word_means, run_means, escaped, string_text, lined_text, char_names, is_delimiter, nameless, spelled_out, character_of, unescape}
use Rattle.items.specs.Items.{unset, extent_items}
use Rattle.items.specs.Whole.{limit}
use Rattle.meaning.specs.Places.{range_of}
use Rattle.lexer.specs.Answers.{position_at, give_of, next_of}
use Rattle.lexer.specs.Reading.{turn_from, turn, next_from, next_at}
use Rattle.lexer.specs.declared.Position.{Position}
use Rattle.reader.specs.Reading.{gives, ends, stops, step_of, moved, reading, next_for}
use Rattle.reader.specs.Calls.{told, call_after_call}
use Rattle.reader.specs.declared.Reader.{Reader}

-- a position in plain mode with no error range, comments kept, and so many brackets open
abbrev at : ℕ → ℕ → Position
at n depth = position_at (record { at = n; last = range_of unset; second = false; report = false; skip = false }) depth

-- a reader of a text at a place and a depth, wherever the text lies
abbrev reads_in : Bor (List ℕ) → List ℕ → ℕ → ℕ → Reader
reads_in r text n depth = reading (record { ref_ptr = r.ref_ptr; now = text }) (at n depth)

-- outside all brackets
abbrev pub reads : Bor (List ℕ) → List ℕ → ℕ → Reader
reads r text n = reads_in r text n 0

pub record Rows (r : Bor (List ℕ)) : Type 0 where
  -- the item, and the reader after it; the end, and the reader that stays
  pub first_item : next_for (reads r (spelled "a [") 0) [] ≡ moved (gives (texted kind.Identifier 0 1 1 0 1)) (reads r (spelled "a [") 1) []
  pub next_item : next_for (reads r (spelled "a [") 1) [] ≡ moved (gives (bare kind.OpenParen kind.Square 2 3)) (reads_in r (spelled "a [") 3 1) []
  pub end : next_for (reads r (spelled "a [") 3) (room 1) ≡ moved ends (reads r (spelled "a [") 3) (room 1)
  -- a decoded text from 0 on; too little room: nothing is written, and the reader stays
  pub decoded : next_for (reads r (spelled "\"\\n\"") 0) (room 2) ≡ moved (gives (texted kind.StringLiteral 0 4 2 0 1)) (reads r (spelled "\"\\n\"") 4) (spelled "\n" ++ room 1)
  pub no_room : next_for (reads r (spelled "\"\\n\\n\"") 0) (room 1) ≡ moved (stops 22 1 2) (reads r (spelled "\"\\n\\n\"") 0) (room 1)
  -- the depth goes with the reader: into the record, past the item, and it stays on 22
  pub closing : next_for (reads_in r (spelled ")") 0 2) [] ≡ moved (gives (deep 2 (bare kind.CloseParen kind.Round 0 1))) (reads_in r (spelled ")") 1 1) []
  pub stays_deep : next_for (reads_in r (spelled "\"\\n\"") 0 2) [] ≡ moved (stops 22 1 1) (reads_in r (spelled "\"\\n\"") 0 2) []
  -- after 22 the same item comes by the first memory that holds it, and then the end
  pub again : call_after_call ([] ∷ room 1 ∷ room 1 ∷ []) (reads r (spelled "\"\\n\"") 0)
      ≡ told (stops 22 1 1) [] ∷ told (gives (texted kind.StringLiteral 0 4 2 0 1)) (spelled "\n") ∷ told ends (room 1) ∷ []

pub rows : (r : Bor (List ℕ)) → Rows r
-- the list only permits the computing
unfolding span starts begins same within is_scalar utf8 width encode bytes_of is_blank first rest front sequences chars digit_of sign uinteger
    value signed whole_of integer exponent_marker exponent suffix point_of dotted undotted decimal infnan integral_of rational_of denominator
    exact or_else ureal real just_of complex_of polar_of ends_i imaginary alone_of pair_of to_sign starts_e rectangular complex zero_int zero_real
    zero_parts judged radix_mark prefix parse_number starts_run first_of in_quotes after_backslash stops_hex in_hex in_trim breaks_word in_word stays_run
    ends_run in_run after_hash ends_hash in_hash read_line lined_of read_word read_run bool_kind quote_kind form_kind hash_kind hash_bracket hash_at
    hash_comma read_hash read_item read_quoted read_word_on hash_on lookup words word_kind word_means run_means escaped string_text lined_text char_names
    is_delimiter nameless spelled_out character_of unescape extent_items give_of next_of turn_from turn next_from next_at step_of next_for
    call_after_call
rows r = record {
  first_item = refl;
  next_item = refl;
  end = refl;
  decoded = refl;
  no_room = refl;
  closing = refl;
  stays_deep = refl;
  again = refl;
}

-- a reader that is put together by hand over a text over the limit: 20, and it stays
too_long : (r : Reader) (text : List ℕ) → 4294967295 < length r.source.now → next_for r text ≡ moved (stops 20 4294967295 0) r text
unfolding next_for step_of next_of
too_long r text h = simp (lt-ltb limit (length r.source.now) h)
