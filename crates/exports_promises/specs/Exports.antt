-- The calls from C, whose contracts equate plain numbers and memories. `mihadrena_read` ensures that its answer and values are `read_number` and
-- `read_values` of `read_of`'s answer, `mihadrena_number` that they are `number_or` and `flattened` of `number`'s; the others as said at each row.
use Rattle.std.specs.Prelude.{ℕ, ◌-◌, ◌≡◌, refl, true, false, List, [], ◌∷◌, drop, replicate, get_or}
use Rattle.laws.specs.Quoted.{code, within}
use Rattle.laws.specs.Texts.{span, starts, begins, same}
use Rattle.chars.specs.Encode.{is_scalar, utf8, width, encode, bytes_of, spelled, lay, laid}
use Rattle.chars.specs.Blank.{is_blank}
use Rattle.chars.specs.Utf8.{first, rest, front, placed, first_bad, sequences, chars}
use Rattle.digits.specs.Digits.{digit_of, sign, uinteger, value, fit, signed, whole_of, integer}
use Rattle.numbers.specs.Reals.{exponent_marker, exponent, suffix, point_of, dotted, undotted, decimal, infnan, integral_of, rational_of, denominator, exact, or_else, ureal, real}
use Rattle.numbers.specs.Grammar.{just_of, complex_of, polar_of, ends_i, imaginary, alone_of, pair_of, to_sign, starts_e, rectangular, complex}
use Rattle.numbers.specs.Grammar.{zero_int, zero_real, zero_parts, judged, radix_mark, prefix, parse_number}
use Rattle.numbers.specs.Call.{number}
use Rattle.items.specs.Classes.{starts_run, first_of, in_quotes, after_backslash, stops_hex, in_hex, in_trim, in_nest, breaks_word, in_word, stays_run, ends_run, in_run, after_hash, ends_hash, in_hash, in_delim}
use Rattle.items.specs.Readers.{read_line, lined_of, scalar_of, read_word, read_run, bool_kind, quote_kind, form_kind, hash_kind, hash_bracket}
use Rattle.items.specs.Readers.{hash_at, hash_comma, unreturned, ends_with, here_ends, here_body, here_delim, after_angle, read_hash, read_comma}
use Rattle.items.specs.Readers.{read_item, read_nest, read_quoted, read_word_on, hash_on}
use Rattle.items.specs.Meaning.{lookup, words, word_kind, word_means, run_means, escaped, string_text, lined_text, here_text, unescape}
use Rattle.items.specs.Items.{extent_items, items_from, past_line, after_pound, items, kept, records, texts}
use Rattle.items.specs.Whole.{Call, deliver, read_of}
use Rattle.lexer.specs.Text.{text_mark}
use Rattle.exports.specs.Read.{read_number, read_values}
use Rattle.numbers_words.specs.Words.{int_words, formed, real_words, joined, parts_words, refusal_words, flattened, number_words, number_or}
use Rattle.exports.specs.Utf8.{good_bytes, code_or, next_or}

-- a call that has no memory for records and text
abbrev pub unroomed : List ℕ → Call
unroomed source = read_of source 0 false [] []

-- a sequence that the end cuts, and a byte that begins none
abbrev pub cut_lambda : List ℕ
cut_lambda = 0xCE ∷ []

abbrev pub good_then_bad : List ℕ
good_then_bad = code "a" ∷ 0xFF ∷ []

-- what stands at the front of a text, by `mihadrena_code_at` and `mihadrena_next_at`
abbrev pub code_in : List ℕ → ℕ
code_in text = code_or (placed 0 (front (drop 0 text)))

abbrev pub next_in : List ℕ → ℕ
next_in text = next_or 0 (placed 0 (front (drop 0 text)))

pub record Rows : Type 0 where
  -- a comment that is to be skipped needs no room; 22 comes with the items first, then the bytes of text
  pub read_skipped : read_number (read_of (spelled ";x") 0 true [] []).answer ≡ 0
  pub read_kept : read_number (unroomed (spelled ";x")).answer ≡ 22
  pub read_refused : read_number (unroomed (spelled "(\"\\n\"")).answer ≡ 22
  pub read_needed : read_values (unroomed (spelled "(\"\\n\"")).answer ≡ 2 ∷ 1 ∷ []
  -- the mark of a text in the text memory, of one past its end, whatever the source has there, and of one in the source
  pub marked : text_mark [] (spelled "ab") 2 0 2 ≡ 0
  pub unmarked : text_mark [] [] 2 0 2 ≡ 27
  pub unmarked_source : text_mark (spelled "ab") [] 2 0 2 ≡ 27
  pub marked_source : text_mark (spelled "ab") [] 1 0 2 ≡ 0
  -- as many words as an answer has are enough, and the first of them tells 1@2 apart from 1+2i
  pub number_roomed : number_or (replicate number_words 7) (number (spelled "1@2")) ≡ 0
  pub number_unroomed : number_or (replicate (number_words - 1) 7) (number (spelled "1@2")) ≡ 22
  pub polar : get_or (flattened (number (spelled "1@2"))) 0 7 ≡ 2
  pub rectangular_form : get_or (flattened (number (spelled "1+2i"))) 0 7 ≡ 1
  -- 21 goes before 22, and changes the first word alone, where there is one; 22 changes none
  pub number_bad : number_or (7 ∷ 7 ∷ []) (number good_then_bad) ≡ 21
  pub number_bad_words : lay (flattened (number good_then_bad)) (7 ∷ 7 ∷ []) ≡ 1 ∷ 7 ∷ []
  pub number_bad_wordless : lay (flattened (number good_then_bad)) [] ≡ []
  pub number_unroomed_words : lay (flattened (number (spelled "1@2"))) (7 ∷ 7 ∷ []) ≡ 7 ∷ 7 ∷ []
  -- the bytes before the first bad sequence
  pub all_good : good_bytes 3 (first_bad (spelled "abc")) ≡ 3
  pub one_good : good_bytes 2 (first_bad good_then_bad) ≡ 1
  -- a character, a bad sequence, one that the end cuts, and the end
  pub code_char : code_in (spelled "a") ≡ code "a"
  pub code_bad : code_in (0xFF ∷ []) ≡ 0x110000
  pub code_cut : code_in cut_lambda ≡ 0x110001
  pub code_end : code_in [] ≡ 0x110002
  -- the place past a character, and the place itself where none stands
  pub next_char : next_in (spelled "λ") ≡ 2
  pub next_bad : next_in (0xFF ∷ []) ≡ 0
  -- a space is blank, and 64, whose half is a space, is not
  pub blank : is_blank (code " ") ≡ true
  pub unblank : is_blank (code "@") ≡ false
  -- λ is put in two bytes, and the third stays
  pub put : lay (encode (code "λ")) (7 ∷ 7 ∷ 7 ∷ []) ≡ 0xCE ∷ 0xBB ∷ 7 ∷ []
  pub put_count : laid (encode (code "λ")) (7 ∷ 7 ∷ 7 ∷ []) ≡ 2

pub computed : Rows
-- the list only permits the computing
unfolding read_number read_values read_of deliver text_mark number int_words formed real_words joined parts_words refusal_words flattened number_or
    lay laid first_bad sequences chars span starts begins same is_scalar utf8 width encode bytes_of is_blank within first rest front digit_of
    sign uinteger value fit signed whole_of integer exponent_marker exponent suffix point_of dotted undotted decimal infnan integral_of
    rational_of denominator exact or_else ureal real just_of complex_of polar_of ends_i imaginary alone_of pair_of to_sign starts_e rectangular
    complex zero_int zero_real zero_parts judged radix_mark prefix parse_number starts_run first_of in_quotes after_backslash stops_hex in_hex in_trim
    in_nest breaks_word in_word stays_run ends_run in_run after_hash ends_hash in_hash in_delim read_line lined_of scalar_of read_word read_run bool_kind
    quote_kind form_kind hash_kind hash_bracket hash_at hash_comma unreturned ends_with here_ends here_body here_delim after_angle read_hash read_comma
    read_item read_nest read_quoted read_word_on hash_on lookup words word_kind word_means run_means escaped string_text lined_text here_text unescape
    extent_items items_from past_line after_pound items kept records texts
computed =
    record {
      read_skipped = refl;
      read_kept = refl;
      read_refused = refl;
      read_needed = refl;
      marked = refl;
      unmarked = refl;
      unmarked_source = refl;
      marked_source = refl;
      number_roomed = refl;
      number_unroomed = refl;
      polar = refl;
      rectangular_form = refl;
      number_bad = refl;
      number_bad_words = refl;
      number_bad_wordless = refl;
      number_unroomed_words = refl;
      all_good = refl;
      one_good = refl;
      code_char = refl;
      code_bad = refl;
      code_cut = refl;
      code_end = refl;
      next_char = refl;
      next_bad = refl;
      blank = refl;
      unblank = refl;
      put = refl;
      put_count = refl;
    }
