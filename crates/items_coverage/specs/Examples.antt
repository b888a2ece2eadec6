-- A text in parts, its gaps written out: an opening line, comments of both forms, a `+` pair, a here-string, two errors, a blank past ASCII.
use Rattle.std.specs.Prelude.{ℕ, ◌+◌, ◌≡◌, refl, Bool, true, false, List, [], ◌∷◌, ◌++◌, map, length}
use Prim.Native.String.{String}
use Rattle.laws.specs.Quoted.{code, codes, within}
use Rattle.items.specs.Kinds as kind
use Rattle.laws.specs.Texts.{span, starts, begins, same}
use Rattle.chars.specs.Encode.{is_scalar, utf8, width, encode, bytes_of, spelled}
use Rattle.chars.specs.Blank.{is_blank}
use Rattle.chars.specs.Utf8.{first, rest, front}
use Rattle.digits.specs.Digits.{digit_of, sign, uinteger, value, fit, signed, whole_of, integer}
use Rattle.digits.specs.Hex.{hex_digits, hex_after_plus, hex_value}
use Rattle.numbers.specs.Reals.{exponent_marker, exponent, suffix, point_of, dotted, undotted, decimal, infnan, integral_of, rational_of, denominator, exact, or_else, ureal, real}
use Rattle.numbers.specs.Grammar.{just_of, complex_of, polar_of, ends_i, imaginary, alone_of, pair_of, to_sign, starts_e, rectangular, complex}
use Rattle.numbers.specs.Grammar.{zero_int, zero_real, zero_parts, judged, radix_mark, prefix, parse_number}
use Rattle.items.specs.Classes.{starts_run, first_of, in_quotes, after_backslash, stops_hex, in_hex, in_trim, in_nest, breaks_word, in_word, stays_run, ends_run, in_run, after_hash, ends_hash, in_hash, in_delim}
use Rattle.items.specs.Readers.{read_line, lined_of, scalar_of, past_failing, read_word, read_run, bool_kind, quote_kind, form_kind, hash_kind}
use Rattle.items.specs.Readers.{hash_bracket, hash_at, hash_comma, unreturned, ends_with, here_ends, here_body, here_delim, after_angle, read_hash}
use Rattle.items.specs.Readers.{read_comma, read_item, read_nest, read_quoted, read_word_on, hash_on}
use Rattle.items.specs.Meaning.{lookup, words, word_kind, word_means, run_means, escaped, string_text, lined_text, here_text, char_names, is_delimiter, nameless, hex_named, spelled_out, character_of, unescape}
use Rattle.items.specs.Items.{extent_items, items_from, past_line, after_pound, items}
use Rattle.items_coverage.specs.Covered.{Seen, seen, ends, blank, one, pair, opening, Covered}
use Rattle.items_coverage.specs.Records.{item_seen}

-- a gap, or an extent with the kinds of its records
data Part : Type 0 where
  gap : List ℕ → Part
  extent : String → List ℕ → Part

abbrev text_of : List Part → List ℕ
text_of [] = []
text_of (gap t ∷ ps) = t ++ text_of ps
text_of (extent t ks ∷ ps) = codes t ++ text_of ps

-- the records, each where its extent stands
abbrev shown : ℕ → List Part → List Seen
shown at [] = []
shown at (gap t ∷ ps) = shown (at + length (bytes_of t)) ps
shown at (extent t ks ∷ ps) = map (λ k. seen k at (at + length (spelled t))) ks ++ shown (at + length (spelled t)) ps

no_break_space : ℕ
no_break_space = 0xA0

parts : List Part
parts =
    gap (codes "#!x")
    ∷ gap (codes "\n")
    ∷ extent "+foo" (kind.Identifier ∷ kind.Identifier ∷ [])
    ∷ gap (codes " ")
    ∷ extent ";c\n" (kind.Comment ∷ [])
    ∷ extent "#|n|#" (kind.Comment ∷ [])
    ∷ extent "#<<E\naE" (kind.StringLiteral ∷ [])
    ∷ extent "(" (kind.OpenParen ∷ [])
    ∷ extent "λ" (kind.Lambda ∷ [])
    ∷ gap (code "\t" ∷ no_break_space ∷ [])
    ∷ extent "#\\ab" ((kind.first_error + kind.InvalidCharName) ∷ [])
    ∷ gap (codes " ")
    ∷ extent "\"b" ((kind.first_error + kind.IncompleteString) ∷ [])
    ∷ []

-- its items, in both modes, are just those of these parts
example : Bool → Type 0
example report = map item_seen (items report (text_of parts)) ≡ shown 0 parts

computed_plain : example false
-- the list only permits the computing
unfolding example parts no_break_space span starts begins same is_scalar utf8 width encode bytes_of is_blank within first rest front digit_of sign
    uinteger value fit signed whole_of integer hex_digits hex_after_plus hex_value exponent_marker exponent suffix point_of dotted undotted decimal
    infnan integral_of rational_of denominator exact or_else ureal real just_of complex_of polar_of ends_i imaginary alone_of pair_of to_sign starts_e
    rectangular complex zero_int zero_real zero_parts judged radix_mark prefix parse_number starts_run first_of in_quotes after_backslash stops_hex
    in_hex in_trim in_nest breaks_word in_word stays_run ends_run in_run after_hash ends_hash in_hash in_delim read_line lined_of scalar_of past_failing
    read_word read_run bool_kind quote_kind form_kind hash_kind hash_bracket hash_at hash_comma unreturned ends_with here_ends here_body here_delim
    after_angle read_hash read_comma read_item read_nest read_quoted read_word_on hash_on lookup words word_kind word_means run_means escaped string_text
    lined_text here_text char_names is_delimiter nameless hex_named spelled_out character_of unescape extent_items items_from past_line after_pound
    items
computed_plain = refl

computed_report : example true
-- the list only permits the computing
unfolding example parts no_break_space span starts begins same is_scalar utf8 width encode bytes_of is_blank within first rest front digit_of sign
    uinteger value fit signed whole_of integer hex_digits hex_after_plus hex_value exponent_marker exponent suffix point_of dotted undotted decimal
    infnan integral_of rational_of denominator exact or_else ureal real just_of complex_of polar_of ends_i imaginary alone_of pair_of to_sign starts_e
    rectangular complex zero_int zero_real zero_parts judged radix_mark prefix parse_number starts_run first_of in_quotes after_backslash stops_hex
    in_hex in_trim in_nest breaks_word in_word stays_run ends_run in_run after_hash ends_hash in_hash in_delim read_line lined_of scalar_of past_failing
    read_word read_run bool_kind quote_kind form_kind hash_kind hash_bracket hash_at hash_comma unreturned ends_with here_ends here_body here_delim
    after_angle read_hash read_comma read_item read_nest read_quoted read_word_on hash_on lookup words word_kind word_means run_means escaped string_text
    lined_text here_text char_names is_delimiter nameless hex_named spelled_out character_of unescape extent_items items_from past_line after_pound
    items
computed_report = refl

-- and they cover it, part by part as they stand: the opening line is passed over
by_hand : Covered (bytes_of (text_of parts)) (shown 0 parts)
unfolding parts no_break_space opening begins span bytes_of utf8 is_blank
by_hand =
    blank (code "\n") refl
    (pair (code "f") (codes "oo")
    (blank (code " ") refl
    (one kind.Comment (code ";") (codes "c\n")
    (one kind.Comment (code "#") (codes "|n|#")
    (one kind.StringLiteral (code "#") (codes "<<E\naE")
    (one kind.OpenParen (code "(") []
    (one kind.Lambda (code "λ") []
    (blank (code "\t") refl
    (blank no_break_space refl
    (one (kind.first_error + kind.InvalidCharName) (code "#") (codes "\\ab")
    (blank (code " ") refl
    (one (kind.first_error + kind.IncompleteString) (code "\"") (codes "b") ends))))))))))))
