-- Whole answers of the call for C, with its memories: it ensures `left_behind r records' findings' values' ≡ find_left source records findings
-- values`.
use Rattle.std.specs.Prelude.{ℕ, ◌≡◌, refl, List, [], ◌∷◌, ◌++◌, replicate}
use Rattle.laws.specs.Quoted.{code, codes, within}
use Rattle.items.specs.Kinds as kind
use Rattle.laws.specs.Texts.{span, starts, begins, same}
use Rattle.chars.specs.Encode.{is_scalar, utf8, width, encode, bytes_of, lay}
use Rattle.chars.specs.Blank.{is_blank}
use Rattle.chars.specs.Utf8.{first, rest, front, sequences, chars, first_bad}
use Rattle.digits.specs.Digits.{digit_of, sign, uinteger, value, fit, signed, whole_of, integer}
use Rattle.digits.specs.Hex.{hex_digits, hex_after_plus, hex_value}
use Rattle.numbers.specs.Reals.{exponent_marker, exponent, suffix, point_of, dotted, undotted, decimal, infnan, integral_of, rational_of, denominator, exact, or_else, ureal, real}
use Rattle.numbers.specs.Grammar.{just_of, complex_of, polar_of, ends_i, imaginary, alone_of, pair_of, to_sign, starts_e, rectangular, complex}
use Rattle.numbers.specs.Grammar.{zero_int, zero_real, zero_parts, judged, radix_mark, prefix, parse_number}
use Rattle.items.specs.Classes.{starts_run, first_of, in_quotes, after_backslash, stops_hex, in_hex, in_trim, in_nest, breaks_word, in_word, stays_run, ends_run, in_run, after_hash, ends_hash, in_hash, in_delim}
use Rattle.items.specs.Readers.{read_line, lined_of, scalar_of, past_failing, read_word, read_run, bool_kind, quote_kind, form_kind, hash_kind}
use Rattle.items.specs.Readers.{hash_bracket, hash_at, hash_comma, unreturned, ends_with, here_ends, here_body, here_delim, after_angle}
use Rattle.items.specs.Readers.{read_hash, read_comma, read_item, read_nest, read_quoted, read_word_on, hash_on}
use Rattle.items.specs.Meaning.{lookup, words, word_kind, word_means, run_means, escaped, string_text, lined_text, here_text, char_names}
use Rattle.items.specs.Meaning.{is_delimiter, nameless, hex_named, spelled_out, character_of, unescape}
use Rattle.items.specs.Items.{extent_items}
use Rattle.lexer.specs.Opening.{line_end, after_hash as after_pound, start_of}
use Rattle.lexer.specs.Reading.{turn_from, turn, next_from, next_at}
use Rattle.findings_rows.specs.Mended.{slips, closing, mended_at, mended_from, mended_of}
use Rattle.findings_rows.specs.Rows.{rows_from}
use Rattle.findings_rows.specs.Laid.{flat, laid_rows}
use Rattle.nested.specs.Items.{has_detail, sort_of, class_of}
use Rattle.nested.specs.Items as nests
use Rattle.nested.specs.Reader.{read_on, give_in}
use Rattle.nested.specs.Lent.{nested_of}
use Rattle.findings.specs.Rows.{row_at, depth_at, last_before, first_from}
use Rattle.findings.specs.Lines.{line_start, first_on_line}
use Rattle.findings.specs.Lists.{is_open, wrong_close, is_dot, misplaced_dot, is_mark, waits, mark_waits, is_misfit, bracket_open, refused_list, list_of}
use Rattle.findings.specs.Slips.{is_name, is_quote, is_dash, is_invisible, odd_code, first_odd, like_number, comma_follows, number_slip, name_told}
use Rattle.findings.specs.Slips.{swallows, is_swallower, ends_otherwise}
use Rattle.findings.specs.Told.{ends_in_text, error_end, error_told, swallow_told, text_told, number_told, name_or_nothing, row_told, told_from, told_of, errors_in}
use Rattle.findings.specs.Find.{find_of, needed_rows, call_of}
use Rattle.findings_exports.specs.Told.{left_behind, find_left}

-- lent memory
abbrev nines : ℕ → List ℕ
nines n = replicate n 9

-- the rows of `1m)`: a name that begins like a number, and a close
abbrev close : ℕ → ℕ → List ℕ
close s e = kind.CloseParen ∷ 0 ∷ s ∷ e ∷ s ∷ e ∷ 0 ∷ 0 ∷ 0 ∷ 0 ∷ []

abbrev named : List ℕ
named = kind.Identifier ∷ 0 ∷ 0 ∷ 2 ∷ 0 ∷ 2 ∷ 0 ∷ 0 ∷ 0 ∷ 0 ∷ []

pub record Finds : Type 0 where
  -- two findings, a warning and an error, of which the memory holds one
  pub told : find_left (bytes_of (codes "1m)")) (nines 20) (nines 9) (nines 2)
      ≡ left_behind 0 (named ++ close 2 3) (1 ∷ 2 ∷ 0 ∷ 0 ∷ 2 ∷ 0 ∷ 0 ∷ 9 ∷ 9 ∷ []) (2 ∷ 1 ∷ [])
  -- a stray close; where there is no room for both values none is written
  pub stray : find_left (bytes_of (codes ")")) (nines 11) (nines 7) (nines 1) ≡ left_behind 0 (close 0 1 ++ nines 1) (2 ∷ 41 ∷ 0 ∷ 0 ∷ 1 ∷ 0 ∷ 0 ∷ []) (nines 1)
  -- a word too few
  pub too_few : find_left (bytes_of (codes ")")) (nines 9) (nines 7) (nines 2) ≡ left_behind 22 (nines 9) (nines 7) (1 ∷ 0 ∷ [])
  -- 21 is a finding, at the bad byte
  pub not_utf8_holds : find_left (code "a" ∷ 0xFF ∷ []) (nines 1) (nines 7) (nines 2) ≡ left_behind 0 (nines 1) (2 ∷ 21 ∷ 0xFF ∷ 1 ∷ 1 ∷ 0 ∷ 0 ∷ []) (1 ∷ 1 ∷ [])

finds : Finds
-- the list only permits the computing
unfolding sequences chars span starts begins same is_scalar utf8 width encode bytes_of is_blank within first rest front digit_of sign uinteger value fit signed whole_of integer hex_digits hex_after_plus hex_value exponent_marker exponent suffix point_of dotted undotted decimal infnan integral_of rational_of denominator exact or_else ureal real just_of complex_of polar_of ends_i imaginary alone_of pair_of to_sign starts_e rectangular complex zero_int zero_real zero_parts judged radix_mark prefix parse_number starts_run first_of in_quotes after_backslash stops_hex in_hex in_trim in_nest breaks_word in_word stays_run ends_run in_run after_hash ends_hash in_hash in_delim read_line lined_of scalar_of past_failing read_word read_run bool_kind quote_kind form_kind hash_kind hash_bracket hash_at hash_comma unreturned ends_with here_ends here_body here_delim after_angle read_hash read_comma read_item read_nest read_quoted read_word_on hash_on lookup words word_kind word_means run_means escaped string_text lined_text here_text char_names is_delimiter nameless hex_named spelled_out character_of unescape extent_items line_end after_pound start_of turn_from turn next_from next_at slips closing mended_at mended_from mended_of rows_from flat told_of has_detail sort_of class_of nests.items_from read_on give_in nested_of row_at depth_at last_before first_from line_start first_on_line is_open wrong_close is_dot misplaced_dot is_mark waits mark_waits is_misfit bracket_open refused_list list_of is_name is_quote is_dash is_invisible odd_code first_odd like_number comma_follows number_slip name_told swallows is_swallower ends_otherwise ends_in_text error_end error_told swallow_told text_told number_told name_or_nothing row_told told_from first_bad find_of laid_rows errors_in needed_rows call_of lay find_left
finds = record { told = refl; stray = refl; too_few = refl; not_utf8_holds = refl }
