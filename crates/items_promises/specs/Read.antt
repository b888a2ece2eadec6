-- The whole-text call: `lexer::read` ensures `call (answer_of r) records' text' ≡ read_of source mode skip records text`.
use Rattle.std.specs.Prelude.{ℕ, ◌+◌, ◌-◌, ◌<◌, ◌≤◌, ◌≡◌, refl, Bool, true, false, List, [], ◌∷◌, ◌++◌, length, None}
use Rattle.std.proofs.Common.{lt-ltb, le-ltb}
use Rattle.laws.specs.Texts.{span, starts, begins, same}
use Rattle.laws.specs.Quoted.{code, within}
use Rattle.chars.specs.Encode.{is_scalar, utf8, width, encode, bytes_of, spelled}
use Rattle.chars.specs.Blank.{is_blank}
use Rattle.chars.specs.Utf8.{first, rest, front, first_bad, sequences, chars}
use Rattle.digits.specs.Digits.{digit_of, sign, uinteger, value, fit, signed, whole_of, integer}
use Rattle.digits.specs.Hex.{hex_digits, hex_after_plus, hex_value}
use Rattle.numbers.specs.Reals.{exponent_marker, exponent, suffix, point_of, dotted, undotted, decimal, infnan, integral_of, rational_of, denominator, exact, or_else, ureal, real}
use Rattle.numbers.specs.Grammar.{just_of, complex_of, polar_of, ends_i, imaginary, alone_of, pair_of, to_sign, starts_e, rectangular, complex}
use Rattle.numbers.specs.Grammar.{zero_int, zero_real, zero_parts, judged, radix_mark, prefix, parse_number}
use Rattle.items.specs.Kinds as kind
use Rattle.items.specs.Classes.{starts_run, first_of, in_quotes, after_backslash, stops_hex, in_hex, in_trim, in_nest, breaks_word, in_word, stays_run, ends_run, in_run, after_hash, ends_hash, in_hash, in_delim}
use Rattle.items.specs.Readers.{read_line, lined_of, scalar_of, past_failing, read_word, read_run, bool_kind, quote_kind, form_kind, hash_kind}
use Rattle.items.specs.Readers.{hash_bracket, hash_at, hash_comma, unreturned, ends_with, here_ends, here_body, here_delim, after_angle, read_hash}
use Rattle.items.specs.Readers.{read_comma, read_item, read_nest, read_quoted, read_word_on, hash_on}
use Rattle.items.specs.Meaning.{lookup, words, word_kind, word_means, run_means, escaped, string_text, lined_text, here_text, char_names, is_delimiter, nameless, hex_named, spelled_out, character_of, unescape}
use Rattle.items.specs.Items.{extent_items, items_from, past_line, after_pound, items, kept, records, texts}
use Rattle.items_promises.specs.Shapes.{room, words_for, bare, texted, error, deep}
use Rattle.items.specs.Whole.{served, refused, Call, call, limit, items_in, deliver, read_of}

-- the whole-text call in plain mode, comments kept
abbrev pub plainly : List ℕ → ℕ → ℕ → Call
plainly source r t = read_of source 0 false (room r) (room t)

-- and in report mode
abbrev reported : List ℕ → ℕ → ℕ → Call
reported source r t = read_of source 1 false (room r) (room t)

pub record Rows : Type 0 where
  -- both items are written, and the word past them stays
  pub brackets : plainly (spelled "[]") (words_for 2 + 1) 0 ≡ call (served 2 0) (bare kind.OpenParen kind.Square 0 1 ++ deep 1 (bare kind.CloseParen kind.Square 1 2) ++ room 1) []
  pub rounds : plainly (spelled "()") (words_for 2 + 1) 0 ≡ call (served 2 0) (bare kind.OpenParen kind.Round 0 1 ++ deep 1 (bare kind.CloseParen kind.Round 1 2) ++ room 1) []
  -- with a word less than both need nothing is written; with just as many all is; nor is anything without room for a text
  pub no_record : plainly (spelled "[]") (words_for 2 - 1) 0 ≡ call (refused 22 2 0) (room (words_for 2 - 1)) []
  pub just_room : plainly (spelled "[]") (words_for 2) 0 ≡ call (served 2 0) (bare kind.OpenParen kind.Square 0 1 ++ deep 1 (bare kind.CloseParen kind.Square 1 2)) []
  pub no_text : plainly (spelled "\"\\n\\n\"") (words_for 1) 1 ≡ call (refused 22 1 2) (room (words_for 1)) (room 1)
  -- no item needs no room
  pub empty : plainly [] 0 0 ≡ call (served 0 0) [] []
  -- comments are left out where that is asked, and only there
  pub comments : plainly (spelled ";") (words_for 1) 0 ≡ call (served 1 0) (bare kind.Comment 0 0 1) []
  pub skipped : read_of (spelled ";") 0 true (room (words_for 1)) [] ≡ call (served 0 0) (room (words_for 1)) []
  -- decoded text lies in the text memory, and the byte past it stays
  pub decoded : plainly (spelled "\"\\n\"") (words_for 1) 2 ≡ call (served 1 1) (texted kind.StringLiteral 0 4 2 0 1) (spelled "\n" ++ room 1)
  -- E14: an identifier whose decoded text is empty has its text in the source
  pub nothing_decoded : plainly (spelled "|\\\n|") (words_for 1) 1 ≡ call (served 1 0) (texted kind.Identifier 0 4 1 1 3) (room 1)
  -- in report mode each error has a place of its own: its range, or its extent
  pub apart : read_of (spelled "#\\ab a #\\") 1 false (room (words_for 3)) []
      ≡ call (served 3 0) (error kind.InvalidCharName 0 0 4 0 4 ++ texted kind.Identifier 5 6 1 5 6 ++ error kind.InvalidCharacter 0 7 9 7 9) []
  pub own_range : read_of (spelled "\"\\xD800;") 1 false (room (words_for 1)) [] ≡ call (served 1 0) (error kind.InvalidHexCodePoint 0xD800 0 8 1 8) []
  -- E2: of a word that begins with a plus there are two items with one extent
  pub plus : plainly (spelled "+a") (words_for 2) 0 ≡ call (served 2 0) (texted kind.Identifier 0 2 1 0 1 ++ texted kind.Identifier 0 2 1 1 2) []
  -- the last error range stands on after other items
  pub standing : plainly (spelled "#\\ab a #\\") (words_for 3) 0
      ≡ call (served 3 0) (error kind.InvalidCharName 0 0 4 0 4 ++ texted kind.Identifier 5 6 1 5 6 ++ error kind.InvalidCharacter 0 7 9 0 4) []
  -- 02 (vii): in report mode error 11 points at what fails, an empty place stands, and a delimiter in a name is error 13
  pub failing : reported (spelled "\"\\x4G1;") (words_for 1) 0 ≡ call (served 1 0) (error kind.InvalidHexEscapeLiteral 2 0 7 4 5) []
  pub no_digits : reported (spelled "\"\\x;") (words_for 1) 0 ≡ call (served 1 0) (error kind.InvalidHexEscapeLiteral 1 0 4 3 3) []
  pub delimiter : reported (spelled "#\\a;") (words_for 1) 0 ≡ call (served 1 0) (error kind.InvalidCharDelimiter 0 0 4 3 4) []
  pub begins_so : reported (spelled "#\\;a") (words_for 1) 0 ≡ call (served 1 0) (error kind.InvalidCharName 0 0 4 0 4) []
  -- 02 (vi): a record has the depth before its item; a close with none open leaves it at 0, and a skipped comment as it is
  pub depths : plainly (spelled "(a)") (words_for 3) 0
      ≡ call (served 3 0) (bare kind.OpenParen kind.Round 0 1 ++ deep 1 (texted kind.Identifier 1 2 1 1 2) ++ deep 1 (bare kind.CloseParen kind.Round 2 3)) []
  pub none_open : plainly (spelled ")(") (words_for 2) 0 ≡ call (served 2 0) (bare kind.CloseParen kind.Round 0 1 ++ bare kind.OpenParen kind.Round 1 2) []
  pub still_none : plainly (spelled "))a") (words_for 3) 0
      ≡ call (served 3 0) (bare kind.CloseParen kind.Round 0 1 ++ bare kind.CloseParen kind.Round 1 2 ++ texted kind.Identifier 2 3 1 2 3) []
  pub past_comment : read_of (spelled "(;a\nb") 0 true (room (words_for 2)) []
      ≡ call (served 2 0) (bare kind.OpenParen kind.Round 0 1 ++ deep 1 (texted kind.Identifier 4 5 1 4 5)) []
  -- 25 before 21, 21 before 22
  pub no_mode : read_of (0xFF ∷ []) 2 false [] [] ≡ call (refused 25 2 0) [] []
  pub not_utf8_holds : plainly (code "a" ∷ 0xFF ∷ []) 0 0 ≡ call (refused 21 1 0) [] []

pub rows : Rows
-- the list only permits the computing
unfolding read_of deliver first_bad sequences chars span starts begins same is_scalar utf8 width encode bytes_of is_blank within first rest front
    digit_of sign uinteger value fit signed whole_of integer hex_digits hex_after_plus hex_value exponent_marker exponent suffix point_of dotted
    undotted decimal infnan integral_of rational_of denominator exact or_else ureal real just_of complex_of polar_of ends_i imaginary alone_of
    pair_of to_sign starts_e rectangular complex zero_int zero_real zero_parts judged radix_mark prefix parse_number starts_run first_of in_quotes
    after_backslash stops_hex in_hex in_trim in_nest breaks_word in_word stays_run ends_run in_run after_hash ends_hash in_hash in_delim read_line lined_of
    scalar_of past_failing read_word read_run bool_kind quote_kind form_kind hash_kind hash_bracket hash_at hash_comma unreturned ends_with here_ends
    here_body here_delim after_angle read_hash read_comma read_item read_nest read_quoted read_word_on hash_on lookup words word_kind word_means run_means
    escaped string_text lined_text here_text char_names is_delimiter nameless hex_named spelled_out character_of unescape extent_items items_from
    past_line after_pound items kept records texts
rows = record {
  brackets = refl;
  rounds = refl;
  no_record = refl;
  just_room = refl;
  no_text = refl;
  empty = refl;
  comments = refl;
  skipped = refl;
  decoded = refl;
  nothing_decoded = refl;
  apart = refl;
  own_range = refl;
  plus = refl;
  standing = refl;
  failing = refl;
  no_digits = refl;
  delimiter = refl;
  begins_so = refl;
  depths = refl;
  none_open = refl;
  still_none = refl;
  past_comment = refl;
  no_mode = refl;
  not_utf8_holds = refl;
}

-- a text of just the limit is read; a byte more is 20, also where the bytes are no text: 20 before 21
longest_read : (source recs text : List ℕ) (mode : ℕ) (skip : Bool) → mode < 2 → length source ≡ 4294967295 → first_bad source ≡ None
    → read_of source mode skip recs text ≡ deliver (items_in source mode skip) recs text
unfolding read_of
longest_read source recs text mode skip m e good = simp (lt-ltb mode 2 m, e, good)

too_long_first : (source recs text : List ℕ) (mode : ℕ) (skip : Bool) → mode < 2 → 4294967295 < length source
    → read_of source mode skip recs text ≡ call (refused 20 4294967295 0) recs text
unfolding read_of
too_long_first source recs text mode skip m h = simp (lt-ltb mode 2 m, lt-ltb limit (length source) h)

-- no other mode is served, whatever the text: 25 before 20
no_mode_first : (source recs text : List ℕ) (mode : ℕ) (skip : Bool) → 2 ≤ mode → read_of source mode skip recs text ≡ call (refused 25 mode 0) recs text
unfolding read_of
no_mode_first source recs text mode skip m = simp (le-ltb mode 2 m)
