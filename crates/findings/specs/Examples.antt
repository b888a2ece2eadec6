-- Worked examples: a plan and its findings, one table under one statement.
use Rattle.std.specs.Prelude.{ℕ, ◌≡◌, refl, List, [], ◌∷◌, map}
use Prim.Native.String.{String}
use Rattle.laws.specs.Quoted.{code, codes, within}
use Rattle.laws.specs.Texts.{span, starts, begins, same}
use Rattle.chars.specs.Encode.{is_scalar, utf8, width, encode, bytes_of}
use Rattle.chars.specs.Blank.{is_blank}
use Rattle.chars.specs.Utf8.{first, rest, front, sequences, chars, first_bad}
use Rattle.digits.specs.Digits.{digit_of, sign, uinteger, value, fit, signed, whole_of, integer}
use Rattle.digits.specs.Hex.{hex_digits, hex_after_plus, hex_value}
use Rattle.numbers.specs.Reals.{exponent_marker, exponent, suffix, point_of, dotted, undotted, decimal, infnan, integral_of, rational_of, denominator, exact, or_else, ureal, real}
use Rattle.numbers.specs.Grammar.{just_of, complex_of, polar_of, ends_i, imaginary, alone_of, pair_of, to_sign, starts_e, rectangular, complex}
use Rattle.numbers.specs.Grammar.{zero_int, zero_real, zero_parts, judged, radix_mark, prefix, parse_number}
use Rattle.items.specs.Classes.{starts_run, first_of, in_quotes, after_backslash, stops_hex, in_hex, in_trim, in_nest, breaks_word, in_word, stays_run, ends_run, in_run, after_hash, ends_hash, in_hash, in_delim}
use Rattle.items.specs.Readers.{read_line, lined_of, scalar_of, past_failing, read_word, read_run, bool_kind, quote_kind, form_kind, hash_kind}
use Rattle.items.specs.Readers.{hash_bracket, hash_at, hash_comma, unreturned, ends_with, here_ends, here_body, here_delim, after_angle}
use Rattle.items.specs.Readers.{read_hash, read_comma, read_item, read_nest, read_quoted, read_word_on, hash_on}
use Rattle.items.specs.Meaning.{lookup, words, word_kind, word_means, run_means, escaped, string_text, lined_text, here_text, char_names}
use Rattle.items.specs.Meaning.{is_delimiter, nameless, hex_named, spelled_out, character_of, unescape}
use Rattle.items.specs.Items.{extent_items}
use Rattle.lexer.specs.Opening.{line_end, after_hash as after_pound, start_of}
use Rattle.lexer.specs.Reading.{turn_from, turn, next_from, next_at}
use Rattle.findings_rows.specs.Mended.{slips, closing, mended_at, mended_from, mended_of}
use Rattle.findings_rows.specs.Rows.{rows_from}
use Rattle.findings_rows.specs.Laid.{flat}
use Rattle.nested.specs.Items.{has_detail, sort_of, class_of}
use Rattle.nested.specs.Items as nests
use Rattle.nested.specs.Reader.{read_on, give_in}
use Rattle.nested.specs.Lent.{nested_of}
use Rattle.findings.specs.Finding.{warning, error, both, single}
use Rattle.findings.specs.Rows.{row_at, depth_at, last_before, first_from}
use Rattle.findings.specs.Lines.{line_start, first_on_line}
use Rattle.findings.specs.Lists.{is_open, wrong_close, is_dot, misplaced_dot, is_mark, waits, mark_waits, is_misfit, bracket_open, refused_list, list_of}
use Rattle.findings.specs.Slips.{is_name, is_quote, is_dash, is_invisible, odd_code, first_odd, like_number, comma_follows, number_slip, name_told}
use Rattle.findings.specs.Slips.{swallows, is_swallower, ends_otherwise}
use Rattle.findings.specs.Told.{ends_in_text, error_end, error_told, swallow_told, text_told, number_told, name_or_nothing, row_told, told_from, told_of}
use Rattle.findings.specs.Find.{find_of}
use Rattle.findings.specs.declared.Finding.{Finding}

record Row : Type 0 where
  text : List ℕ
  tells : List Finding

abbrev row : List ℕ → List Finding → Row
row t f = record { text = bytes_of t; tells = f }

abbrev plan : String → List Finding → Row
plan t f = row (codes t) f

unfoldable table : List Row
table =
    plan "(plan (a 1.5 \"b\" . |c d|))\n" []
    ∷ plan "##" (single error 1 (code "#") 0 2 ∷ [])
    ∷ plan "1/0" (single error 8 0 0 3 ∷ [])
    -- one slip, one finding: the rest of its string is passed over
    ∷ plan "(a \"\\q (\" b)" (single error 6 (code "q") 4 6 ∷ [])
    -- not UTF-8
    ∷ record { text = 0x28 ∷ 0xE4 ∷ 0x29 ∷ []; tells = single error 21 0xE4 1 1 ∷ [] }
    -- of what is not closed only the opening characters, and nothing of the bracket
    ∷ plan "(\"a" (single error 2 0 1 2 ∷ [])
    ∷ plan "(|a" (single error 3 0 1 2 ∷ [])
    ∷ plan "(#|a" (single error 4 0 1 3 ∷ [])
    -- the first text has swallowed a line: its closing quote is missing, and the last quote is left over
    ∷ plan "\"a\n(b \"c\" d" (both error 2 0 0 1 8 9 ∷ [])
    ∷ plan "\"a\n\t (b\"" (single warning 6 0 0 1 ∷ [])
    ∷ plan "\"a\n b (\"" []
    -- E40: no misfit; one, which lies in the list that starts at 4
    ∷ plan "(a (b" (single error 40 2 3 4 ∷ [])
    ∷ plan "(a\n (b\n (c))" (both error 40 1 4 5 8 9 ∷ [])
    ∷ plan "(a\n (b\n  (c))" (single error 40 1 0 1 ∷ [])
    -- E41: stray; wrong
    ∷ plan "(a))" (single error 41 0 3 4 ∷ [])
    ∷ plan "((b) [a)" (both error 41 1 7 8 5 6 ∷ [])
    -- E42: the dot itself; something after it
    ∷ plan "(. a)" (single error 42 0 1 2 ∷ [])
    ∷ plan "(a . (b) c)" (single error 42 1 3 4 ∷ [])
    ∷ plan "(a ." (single error 42 1 3 4 ∷ [])
    -- E43: the mark
    ∷ plan "(a ')" (single error 43 0 3 4 ∷ [])
    ∷ plan "(a '#;b)" (single error 43 0 3 4 ∷ [])
    ∷ plan "(a #;" (single error 43 0 3 5 ∷ [])
    -- W01; a name that begins like a number, and one in vertical lines, which is never warned of
    ∷ plan "412,5" (single warning 1 3 0 5 ∷ [])
    ∷ plan "+12,5" (single warning 1 3 0 5 ∷ [])
    ∷ plan "6892O14.7 -.5m 1.2.3" (single warning 2 0 0 9 ∷ single warning 2 0 15 20 ∷ [])
    ∷ plan "|6892O14.7|" []
    -- W03 and W04 at the first odd character; W05
    ∷ plan "“a”" (single warning 3 0x201C 0 3 ∷ [])
    ∷ plan "−5" (single warning 4 0x2212 0 3 ∷ [])
    ∷ row (0xFEFF ∷ codes "(a)") (single warning 5 0xFEFF 0 3 ∷ [])
    -- W07
    ∷ plan "(corner 6892014.7;gps\n)" (single warning 7 (code ";") 8 17 ∷ [])
    -- row after row, the finding about lists before the row's own
    ∷ plan "1m) 2m" (single warning 2 0 0 2 ∷ single error 41 0 2 3 ∷ single warning 2 0 4 6 ∷ [])
    ∷ []

computed : map (λ r. find_of r.text) table ≡ map (λ r. r.tells) table
-- the list only permits the computing
unfolding table sequences chars span starts begins same is_scalar utf8 width encode bytes_of is_blank within first rest front digit_of sign
    uinteger value fit signed whole_of integer hex_digits hex_after_plus hex_value exponent_marker exponent suffix point_of dotted undotted
    decimal infnan integral_of rational_of denominator exact or_else ureal real just_of complex_of polar_of ends_i imaginary alone_of pair_of
    to_sign starts_e rectangular complex zero_int zero_real zero_parts judged radix_mark prefix parse_number starts_run first_of in_quotes
    after_backslash stops_hex in_hex in_trim in_nest breaks_word in_word stays_run ends_run in_run after_hash ends_hash in_hash in_delim read_line
    lined_of scalar_of past_failing read_word read_run bool_kind quote_kind form_kind hash_kind hash_bracket hash_at hash_comma unreturned ends_with
    here_ends here_body here_delim after_angle read_hash read_comma read_item read_nest read_quoted read_word_on hash_on lookup words word_kind word_means
    run_means escaped string_text lined_text here_text char_names is_delimiter nameless hex_named spelled_out character_of unescape extent_items
    line_end after_pound start_of turn_from turn next_from next_at slips closing mended_at mended_from mended_of rows_from flat told_of has_detail
    sort_of class_of nests.items_from read_on give_in nested_of row_at depth_at last_before first_from line_start first_on_line is_open wrong_close
    is_dot misplaced_dot is_mark waits mark_waits is_misfit bracket_open refused_list list_of is_name is_quote is_dash is_invisible odd_code first_odd
    like_number comma_follows number_slip name_told swallows is_swallower ends_otherwise ends_in_text error_end error_told swallow_told text_told
    number_told name_or_nothing row_told told_from first_bad find_of
computed = refl
