-- One item a call: `lexer::next_at` ensures `replied (reply_of r) text' ≡ next_of source position text`. Crate `reader_promises` has the reader that moves.
use Rattle.std.specs.Prelude.{ℕ, ◌+◌, ◌<◌, ◌≡◌, refl, Bool, true, false, List, [], ◌++◌, length}
use Rattle.std.proofs.Common.{lt-ltb}
use Rattle.laws.specs.Texts.{span, starts, begins, same}
use Rattle.laws.specs.Quoted.{within}
use Rattle.chars.specs.Encode.{is_scalar, utf8, width, encode, bytes_of, spelled}
use Rattle.chars.specs.Blank.{is_blank}
use Rattle.chars.specs.Utf8.{first, rest, front, sequences, chars}
use Rattle.digits.specs.Digits.{digit_of, sign, uinteger, value, signed, whole_of, integer}
use Rattle.numbers.specs.Reals.{exponent_marker, exponent, suffix, point_of, dotted, undotted, decimal, infnan, integral_of, rational_of, denominator, exact, or_else, ureal, real}
use Rattle.numbers.specs.Grammar.{just_of, complex_of, polar_of, ends_i, imaginary, alone_of, pair_of, to_sign, starts_e, rectangular, complex}
use Rattle.numbers.specs.Grammar.{zero_int, zero_real, zero_parts, judged, radix_mark, prefix, parse_number}
use Rattle.items.specs.Kinds as kind
use Rattle.items_promises.specs.Shapes.{room, bare, texted, deep}
use Rattle.items.specs.Classes.{starts_run, first_of, in_quotes, after_backslash, stops_hex, in_hex, in_trim, breaks_word, in_word, stays_run, ends_run, in_run, after_hash, ends_hash, in_hash}
use Rattle.items.specs.Readers.{read_line, lined_of, read_word, read_run, bool_kind, quote_kind, form_kind, hash_kind, hash_bracket, hash_at, hash_comma, read_hash, read_item, read_quoted, read_word_on, hash_on}
use Rattle.items.specs.Meaning.{lookup, words, word_kind, word_means, run_means, escaped, string_text, lined_text, char_names, is_delimiter, nameless, spelled_out, character_of, unescape}
use Rattle.items.specs.Items.{Place, range, unset, extent_items, most_open}
use Rattle.items.specs.Whole.{limit}
use Rattle.meaning.specs.Places.{range_of}
use Rattle.lexer.specs.Answers.{item, finished, refuses, replied, position_at, give_of, next_of}
use Rattle.lexer.specs.Reading.{turn_from, turn, next_from, next_at}
use Rattle.lexer.specs.declared.Position.{Position}

-- a position in plain mode outside all brackets
abbrev plain : ℕ → Place → Bool → Bool → Position
plain n last second skip = position_at (record { at = n; last = range_of last; second = second; report = false; skip = skip }) 0

-- with no error range, comments kept
abbrev pub at : ℕ → Position
at n = plain n unset false false

-- the same where of an extent's two items one was given, and where comments are skipped
abbrev pub half : ℕ → Position
half n = plain n unset true false

abbrev skipping : ℕ → Position
skipping n = plain n unset false true

-- the same after an error that set a range
abbrev after : ℕ → ℕ → ℕ → Position
after a b n = plain n (range a b) false false

-- a position with so many brackets open
abbrev pub inside : ℕ → Position → Position
inside depth p = position_at p.spot depth

pub record Rows : Type 0 where
  -- the item at the position and the position after it; the end
  pub first_item : next_of (spelled "a [") (at 0) [] ≡ replied (item (texted kind.Identifier 0 1 1 0 1) (at 1)) []
  pub next_item : next_of (spelled "a [") (at 1) [] ≡ replied (item (bare kind.OpenParen kind.Square 2 3) (inside 1 (at 3))) []
  pub end : next_of (spelled "a [") (at 3) (room 1) ≡ replied finished (room 1)
  -- a decoded text from 0 on; just room enough; too little, and nothing is written
  pub decoded : next_of (spelled "\"\\n\"") (at 0) (room 2) ≡ replied (item (texted kind.StringLiteral 0 4 2 0 1) (at 4)) (spelled "\n" ++ room 1)
  pub full : next_of (spelled "\"\\n\"") (at 0) (room 1) ≡ replied (item (texted kind.StringLiteral 0 4 2 0 1) (at 4)) (spelled "\n")
  pub no_room : next_of (spelled "\"\\n\\n\"") (at 0) (room 1) ≡ replied (refuses 22 1 2) (room 1)
  -- E2: the first of a pair stays at its extent, the second goes past it
  pub plus : next_of (spelled "+a") (at 0) [] ≡ replied (item (texted kind.Identifier 0 2 1 0 1) (half 0)) []
  pub after_plus : next_of (spelled "+a") (half 0) [] ≡ replied (item (texted kind.Identifier 0 2 1 1 2) (at 2)) []
  -- a skipped comment is passed over
  pub skipped : next_of (spelled ";\n[") (skipping 0) [] ≡ replied (item (bare kind.OpenParen kind.Square 2 3) (inside 1 (skipping 3))) []
  -- an error's range goes with the position
  pub ranged : next_of (spelled "#\\ab") (at 0) [] ≡ replied (item (bare (kind.first_error + kind.InvalidCharName) 0 0 4) (after 0 4 4)) []
  -- the record has the depth of the position, and the position after it the depth after it
  pub closing : next_of (spelled ")") (inside 2 (at 0)) [] ≡ replied (item (deep 2 (bare kind.CloseParen kind.Round 0 1)) (inside 1 (at 1))) []
  -- a position that no call gave, as deep as a word holds: an open bracket leaves it there
  pub as_deep : next_of (spelled "(") (inside most_open (at 0)) []
      ≡ replied (item (deep most_open (bare kind.OpenParen kind.Round 0 1)) (inside most_open (at 1))) []
  -- another, past the end
  pub past_end : next_of (spelled "a") (at 9) [] ≡ replied finished []

pub rows : Rows
-- the list only permits the computing
unfolding span starts begins same within is_scalar utf8 width encode bytes_of is_blank first rest front sequences chars digit_of sign uinteger
    value signed whole_of integer exponent_marker exponent suffix point_of dotted undotted decimal infnan integral_of rational_of denominator
    exact or_else ureal real just_of complex_of polar_of ends_i imaginary alone_of pair_of to_sign starts_e rectangular complex zero_int zero_real
    zero_parts judged radix_mark prefix parse_number starts_run first_of in_quotes after_backslash stops_hex in_hex in_trim breaks_word in_word stays_run
    ends_run in_run after_hash ends_hash in_hash read_line lined_of read_word read_run bool_kind quote_kind form_kind hash_kind hash_bracket hash_at
    hash_comma read_hash read_item read_quoted read_word_on hash_on lookup words word_kind word_means run_means escaped string_text lined_text char_names
    is_delimiter nameless spelled_out character_of unescape extent_items give_of next_of turn_from turn next_from next_at
rows = record {
  first_item = refl;
  next_item = refl;
  end = refl;
  decoded = refl;
  full = refl;
  no_room = refl;
  plus = refl;
  after_plus = refl;
  skipped = refl;
  ranged = refl;
  closing = refl;
  as_deep = refl;
  past_end = refl;
}

-- a source over the limit is 20 at every position
too_long_first : (source : List ℕ) (p : Position) (text : List ℕ) → 4294967295 < length source → next_of source p text ≡ replied (refuses 20 4294967295 0) text
unfolding next_of
too_long_first source p text h = simp (lt-ltb limit (length source) h)
