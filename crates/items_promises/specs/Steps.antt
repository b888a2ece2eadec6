-- The machine's steps: `steps::step` ensures `r ≡ step_of report phase (so_far raw at) c`, `first_phase` and `finish` the same of their
-- definitions in crate `items`, and `scan` goes on by `scan_of`.
use Rattle.std.specs.Prelude.{◌≡◌, refl, true, false}
use Rattle.laws.specs.Quoted.{code, codes, within}
use Rattle.laws.specs.Texts.{span, starts, begins, same}
use Rattle.chars.specs.Encode.{is_scalar, utf8, width, encode, bytes_of, spelled}
use Rattle.chars.specs.Blank.{is_blank}
use Rattle.chars.specs.Utf8.{first, rest, front}
use Rattle.digits.specs.Digits.{digit_of, sign, uinteger, value, fit, signed, whole_of, integer}
use Rattle.digits.specs.Hex.{hex_digits, hex_after_plus, hex_value}
use Rattle.numbers.specs.Reals.{exponent_marker, exponent, suffix, point_of, dotted, undotted, decimal, infnan, integral_of, rational_of, denominator, exact, or_else, ureal, real}
use Rattle.numbers.specs.Grammar.{just_of, complex_of, polar_of, ends_i, imaginary, alone_of, pair_of, to_sign, starts_e, rectangular, complex}
use Rattle.numbers.specs.Grammar.{zero_int, zero_real, zero_parts, judged, radix_mark, prefix, parse_number}
use Rattle.items.specs.Kinds as kind
use Rattle.items.specs.Classes.{starts_run, first_of, in_quotes, after_backslash, stops_hex, in_hex, in_trim, in_nest, breaks_word, in_word, stays_run, ends_run, in_run, after_hash}
use Rattle.items.specs.Machine.{on_first, step_of, finish_of, scan_of}
use Rattle.items.specs.Readers.{so_far, got, comment, lined_of, scalar_of, past_failing}
use Rattle.items.specs.declared.Quotes.TheVariants.{Double, Lines}
use Rattle.items.specs.declared.Outcome.TheVariants.{Token, Word, Run, Lined, Error, ErrorAt}
use Rattle.items.specs.declared.Phase.TheVariants as ph
use Rattle.items.specs.declared.Next.TheVariants.{Eat, Stop}

pub record Rows : Type 0 where
  -- first_phase: a comma is not known before the character after it
  pub comma : on_first (first_of (code ",")) ≡ ph.AfterComma
  pub comma_at : step_of false ph.AfterComma (so_far (spelled ",") 1) (code "@") ≡ Eat (ph.Done (Token kind.UnquoteSplice 0))
  -- step: a semicolon ends a number run in report mode alone (E8)
  pub semicolon : step_of false ph.InRun (so_far (spelled "14.7") 4) (code ";") ≡ Stop Word
  pub reported : step_of true ph.InRun (so_far (spelled "14.7") 4) (code ";") ≡ Stop Run
  -- so does a vertical line after a number, which in plain mode goes on to the next one (E13)
  pub bar : step_of false ph.InRun (so_far (spelled "12") 2) (code "|") ≡ Eat (ph.Quoted Lines)
  pub reported_bar : step_of true ph.InRun (so_far (spelled "12") 2) (code "|") ≡ Stop Run
  pub reported_zero : step_of true ph.InRun (so_far (spelled "1/0") 3) (code "|") ≡ Stop Run
  -- where the run is no number it goes on in report mode too
  pub reported_sign : step_of true ph.InRun (so_far (spelled "-") 1) (code "|") ≡ Eat (ph.Quoted Lines)
  -- what breaks a hex escape off lies in its extent and not in its place
  pub broken : step_of false (ph.Hex Double (code ";") 1 3) (so_far (spelled "\"\\x4") 4) (code "\"") ≡ Eat (ph.Done (ErrorAt kind.UnclosedHexEscape (code ";") 1 4))
  -- digits that fail: in plain mode the whole escape is the place, in report mode what fails (02 (vii))
  pub unreported : step_of false (ph.Hex Double (code ";") 1 3) (so_far (spelled "\"\\x4G1") 6) (code ";") ≡ Eat (ph.Done (ErrorAt kind.InvalidHexEscapeLiteral 2 1 7))
  pub failing : step_of true (ph.Hex Double (code ";") 1 3) (so_far (spelled "\"\\x4G1") 6) (code ";") ≡ Eat (ph.Done (ErrorAt kind.InvalidHexEscapeLiteral 2 4 5))
  pub no_digits : step_of true (ph.Brace Lines 1) (so_far (spelled "|\\u") 3) (code ";") ≡ Eat (ph.Done (ErrorAt kind.InvalidHexEscapeLiteral 1 3 3))
  -- a comment in a comment closes itself alone
  pub nested : step_of false (ph.NestBar 2) (so_far (spelled "#|#||") 5) (code "#") ≡ Eat (ph.Nest 1)
  -- finish: E9, and E13
  pub lined : finish_of (ph.Quoted Lines) (spelled "|a\\|") ≡ Lined
  pub unlined : finish_of (ph.Closed Lines) (spelled "-|a|") ≡ Error kind.IncompleteIdentifier 0
  -- scan: an item ends before the character that shows its end
  pub scan : scan_of false (ph.Nest 1) (so_far (spelled "#|") 2) (codes "#||#|#a") ≡ got comment (so_far (spelled "#|#||#|#") 8) (codes "a")

rows : Rows
-- the list only permits the computing
unfolding within span starts begins same is_scalar utf8 width encode bytes_of is_blank first rest front digit_of sign uinteger value fit signed
    whole_of integer hex_digits hex_after_plus hex_value exponent_marker exponent suffix point_of dotted undotted decimal infnan integral_of
    rational_of denominator exact or_else ureal real just_of complex_of polar_of ends_i imaginary alone_of pair_of to_sign starts_e rectangular
    complex zero_int zero_real zero_parts judged radix_mark prefix parse_number starts_run first_of in_quotes after_backslash stops_hex in_hex in_trim
    in_nest breaks_word in_word stays_run ends_run in_run after_hash lined_of scalar_of past_failing scan_of
rows = record {
  comma = refl;
  comma_at = refl;
  semicolon = refl;
  reported = refl;
  bar = refl;
  reported_bar = refl;
  reported_zero = refl;
  reported_sign = refl;
  broken = refl;
  unreported = refl;
  failing = refl;
  no_digits = refl;
  nested = refl;
  lined = refl;
  unlined = refl;
  scan = refl;
}
