-- E1 to E16 of document 01 on a text's bytes: the answer, every word of the records, every byte of the text memory, and for each number item
-- what the number call gives for its extent. One table, one statement, by computation. A word more and a byte more are lent than are needed:
-- both stay.
use Rattle.std.specs.Prelude.{ℕ, ◌+◌, ◌-◌, ◌≡◌, refl, false, List, [], ◌∷◌, ◌++◌, map, length, take, drop, pos, negsuc, eqb, if◌then◌else◌}
use Prim.Native.String.{String}
use Rattle.laws.specs.Texts.{span, starts, begins, same}
use Rattle.laws.specs.Quoted.{within}
use Rattle.chars.specs.Encode.{is_scalar, utf8, width, encode, bytes_of, spelled}
use Rattle.chars.specs.Blank.{is_blank}
use Rattle.chars.specs.Utf8.{first, rest, front, first_bad, sequences, chars}
use Rattle.digits.specs.Digits.{digit_of, sign, uinteger, value, fit, signed, whole_of, integer}
use Rattle.digits.specs.Hex.{hex_digits, hex_after_plus, hex_value}
use Rattle.numbers.specs.Reals.{exponent_marker, exponent, suffix, point_of, dotted, undotted, decimal, infnan, integral_of, rational_of, denominator, exact, or_else, ureal, real}
use Rattle.numbers.specs.Grammar.{just_of, complex_of, polar_of, ends_i, imaginary, alone_of, pair_of, to_sign, starts_e, rectangular, complex}
use Rattle.numbers.specs.Grammar.{zero_int, zero_real, zero_parts, judged, radix_mark, prefix, parse_number}
use Rattle.items.specs.Kinds as kind
use Rattle.items.specs.Classes.{starts_run, first_of, in_quotes, after_backslash, stops_hex, in_hex, in_trim, in_nest, breaks_word, in_word, stays_run, ends_run, in_run, after_hash, ends_hash, in_hash, in_delim}
use Rattle.items.specs.Readers.{read_line, lined_of, scalar_of, past_failing, read_word, read_run, bool_kind, quote_kind, form_kind, hash_kind}
use Rattle.items.specs.Readers.{hash_bracket, hash_at, hash_comma, unreturned, ends_with, here_ends, here_body, here_delim, after_angle, read_hash}
use Rattle.items.specs.Readers.{read_comma, read_item, read_nest, read_quoted, read_word_on, hash_on}
use Rattle.items.specs.Meaning.{lookup, words, word_kind, word_means, run_means, escaped, string_text, lined_text, here_text, char_names, is_delimiter, nameless, hex_named, spelled_out, character_of, unescape}
use Rattle.numbers.specs.Plain.{plain}
use Rattle.numbers.specs.declared.Real.{Real}
use Rattle.numbers.specs.declared.Real.TheVariants.{Integer, Rational, Decimal}
use Rattle.numbers.specs.declared.Parts.TheVariants.{Just, Polar}
use Rattle.numbers.specs.Call.{Answer, parts, number}
use Rattle.digits.specs.declared.Int.TheVariants.{Small}
use Rattle.items.specs.Items.{Item, extent_items, items_from, past_line, after_pound, items, kept, records, texts}
use Rattle.items_promises.specs.Shapes.{room, bare, texted, error}
use Rattle.items.specs.Whole.{served, Call, call, items_in, deliver, read_of}

record Example : Type 0 where
  -- the n of En, and the mode
  label : ℕ
  mode : ℕ
  source : List ℕ
  items : ℕ
  records : List ℕ
  text : List ℕ
  numbers : List Answer

abbrev example : ℕ → ℕ → String → ℕ → List ℕ → List ℕ → List Answer → Example
example n mode s k r t ns = record { label = n; mode = mode; source = spelled s; items = k; records = r; text = t; numbers = ns }

-- with no number in it
abbrev plainly : ℕ → String → ℕ → List ℕ → List ℕ → Example
plainly n s k r t = example n 0 s k r t []

-- what the calls give
record Given : Type 0 where
  label : ℕ
  call : Call
  numbers : List Answer

-- the number call on the extent of each number
unfoldable numbers_of : List ℕ → List Item → List Answer
numbers_of source [] = []
numbers_of source (i ∷ is) =
    let more = numbers_of source is in
    if eqb i.kind kind.Number then number (take (i.end - i.start) (drop i.start source)) ∷ more else more

abbrev wanted : Example → Given
wanted e = record {
  label = e.label;
  call = call (served e.items (length e.text)) (e.records ++ room 1) (e.text ++ room 1);
  numbers = e.numbers;
}

abbrev given : Example → Given
given e = record {
  label = e.label;
  call = read_of e.source e.mode false (room (length e.records + 1)) (room (length e.text + 1));
  numbers = numbers_of e.source (items_in e.source e.mode false);
}

-- a decimal without a sign and an exponent: the places of its whole digits and of its fraction's
abbrev point : ℕ → ℕ → ℕ → Real
point a b c = Decimal (record {
  negative = false;
  whole = record { start = a; end = b };
  fraction = record { start = b + 1; end = c };
  exponent = record { negative = false; digits = record { start = c; end = c } };
})

table : List Example
table =
    plainly 1 "" 0 [] []
    ∷ plainly 2 "+foo" 2 (texted kind.Identifier 0 4 1 0 1 ++ texted kind.Identifier 0 4 1 1 4) []
    ∷ plainly 3 "||" 1 (texted kind.Identifier 0 2 1 1 1) []
    ∷ plainly 4 "#\\" 1 (error kind.InvalidCharacter 0 0 2 0 2) []
    ∷ plainly 5 "1/0" 1 (error kind.ZeroDenominator 0 0 3 0 3) []
    ∷ plainly 6 "1/-2" 1 (texted kind.Identifier 0 4 1 0 4) []
    ∷ example 7 0 "1@1/-2" 1 (bare kind.Number 0 0 6) []
    (parts (Polar (Integer (Small (pos 1))) (Rational (Small (pos 1)) (Small (negsuc 1)))) ∷ [])
    ∷ plainly 8 "14.7;gps" 2 (texted kind.Identifier 0 4 1 0 4 ++ bare kind.Comment 0 4 8) []
    ∷ example 8 1 "14.7;gps" 2 (bare kind.Number 0 0 4 ++ bare kind.Comment 0 4 8) [] (parts (Just (point 0 2 4)) ∷ [])
    ∷ plainly 9 "|a\\|" 1 (texted kind.Identifier 0 4 2 0 2) (spelled "a|")
    ∷ plainly 10 "\"\\xD800;\"" 2 (error kind.InvalidHexCodePoint 0xD800 0 8 1 8 ++ error kind.IncompleteString 0 8 9 1 8) []
    ∷ plainly 11 "\"\\x+41;\"" 1 (texted kind.StringLiteral 0 8 2 0 1) (spelled "A")
    ∷ plainly 12 "#<<\nabc" 2 (texted kind.StringLiteral 0 5 1 4 5 ++ texted kind.Identifier 5 7 1 5 7) []
    ∷ plainly 13 "-|a|" 1 (error kind.IncompleteIdentifier 0 0 4 0 4) []
    ∷ plainly 14 "|\\\n|" 1 (texted kind.Identifier 0 4 1 1 3) []
    ∷ plainly 15 "#xe+1i" 1 (texted kind.Identifier 0 6 1 0 6) []
    ∷ example 16 0 "12,5" 3 (texted kind.Identifier 0 2 1 0 2 ++ bare kind.Unquote 0 2 3 ++ bare kind.Number 0 3 4) []
    (parts (Just (Integer (Small (pos 5)))) ∷ [])
    ∷ []

computed : map given table ≡ map wanted table
-- the list only permits the computing
unfolding table numbers_of number plain read_of deliver first_bad sequences chars span starts begins same is_scalar utf8 width encode bytes_of
    is_blank within first rest front digit_of sign uinteger value fit signed whole_of integer hex_digits hex_after_plus hex_value exponent_marker
    exponent suffix point_of dotted undotted decimal infnan integral_of rational_of denominator exact or_else ureal real just_of complex_of
    polar_of ends_i imaginary alone_of pair_of to_sign starts_e rectangular complex zero_int zero_real zero_parts judged radix_mark prefix parse_number
    starts_run first_of in_quotes after_backslash stops_hex in_hex in_trim in_nest breaks_word in_word stays_run ends_run in_run after_hash ends_hash
    in_hash in_delim read_line lined_of scalar_of past_failing read_word read_run bool_kind quote_kind form_kind hash_kind hash_bracket hash_at hash_comma
    unreturned ends_with here_ends here_body here_delim after_angle read_hash read_comma read_item read_nest read_quoted read_word_on hash_on lookup words
    word_kind word_means run_means escaped string_text lined_text here_text char_names is_delimiter nameless hex_named spelled_out character_of
    unescape extent_items items_from past_line after_pound items kept records texts
computed = refl
