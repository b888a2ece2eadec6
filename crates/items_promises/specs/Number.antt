-- The number call: `numbers::number` ensures `answered r ≡ number t`. `parse_number` and `is_plain` ensure `r ≡` their definitions.
use Rattle.std.specs.Prelude.{ℕ, ◌<◌, ◌≡◌, refl, true, false, List, [], ◌∷◌, length, ℤ, pos, negsuc, None}
use Rattle.std.proofs.Common.{sym, ◌∙◌, lt-ltb}
use Rattle.laws.specs.Texts.{span, starts, same}
use Rattle.laws.specs.Quoted.{code, within}
use Rattle.refusal.specs.Refusals.{limit}
use Rattle.chars.specs.Encode.{utf8, bytes_of, spelled}
use Rattle.chars.specs.Utf8.{first, rest, front, first_bad, sequences}
use Rattle.digits.specs.Digits.{digit_of, sign, uinteger, value, signed, whole_of, integer}
use Rattle.digits.specs.declared.Int.TheVariants.{Small}
use Rattle.numbers.specs.Reals.{exponent_marker, exponent, suffix, point_of, dotted, undotted, decimal, infnan, integral_of, rational_of, denominator, exact, or_else, ureal, real}
use Rattle.numbers.specs.Grammar.{just_of, complex_of, polar_of, ends_i, imaginary, alone_of, pair_of, to_sign, starts_e, rectangular, complex}
use Rattle.numbers.specs.Grammar.{zero_int, zero_real, zero_parts, judged, radix_mark, prefix, parse_number}
use Rattle.numbers.specs.Plain.{plain}
use Rattle.numbers.specs.declared.Real.{Real}
use Rattle.numbers.specs.declared.Real.TheVariants.{Integer, Rational}
use Rattle.numbers.specs.declared.Parts.TheVariants.{Just, Polar}
use Rattle.numbers.specs.Call.{parts, no_number, error, refused, answered, given, number, NumberAnswer}
use Rattle.numbers.proofs.Call.{answered_one}

abbrev small : ℤ → Real
small v = Integer (Small v)

pub record Rows : Type 0 where
  pub negative : number (spelled "-5") ≡ parts (Just (small (negsuc 4)))
  pub no_digits : number (spelled "-") ≡ no_number
  -- E5, E7, E15
  pub zero : number (spelled "1/0") ≡ error 8
  pub signed_denominator : number (spelled "1@1/-2") ≡ parts (Polar (small (pos 1)) (Rational (Small (pos 1)) (Small (negsuc 1))))
  pub sign_after_e : number (spelled "#xe+1i") ≡ no_number
  -- bytes that are no text are refused with the place of the first bad sequence
  pub no_text : number (code "1" ∷ 0xFF ∷ []) ≡ refused 21 1
  -- is_plain
  pub plain_digits_holds : plain (spelled "-14") ≡ true
  pub plain_sign : plain (spelled "-") ≡ false
  pub plain_zero : plain (spelled "1/0") ≡ false

pub rows : Rows
-- the list only permits the computing
unfolding number first_bad sequences span starts same utf8 bytes_of within first rest front digit_of sign uinteger value signed whole_of integer
    exponent_marker exponent suffix point_of dotted undotted decimal infnan integral_of rational_of denominator exact or_else ureal real just_of
    complex_of polar_of ends_i imaginary alone_of pair_of to_sign starts_e rectangular complex zero_int zero_real zero_parts judged radix_mark prefix
    parse_number plain
rows = record {
  negative = refl;
  no_digits = refl;
  zero = refl;
  signed_denominator = refl;
  sign_after_e = refl;
  no_text = refl;
  plain_digits_holds = refl;
  plain_sign = refl;
  plain_zero = refl;
}

-- two answers that the contract permits for one text coincide
pub number_one_answer : (t : List ℕ) (a b : NumberAnswer) → answered a ≡ number t → answered b ≡ number t → a ≡ b
number_one_answer t a b ea eb = answered_one a b (ea ∙ sym eb)

-- a text of just the limit is read; a byte more is 20, also where the bytes are no text: 20 before 21
longest_read : (t : List ℕ) → length t ≡ 4294967295 → first_bad t ≡ None → number t ≡ given (parse_number t)
unfolding number
longest_read t e good = simp (e, good)

too_long_first : (t : List ℕ) → 4294967295 < length t → number t ≡ refused 20 4294967295
unfolding number
too_long_first t h = simp (lt-ltb limit (length t) h)
