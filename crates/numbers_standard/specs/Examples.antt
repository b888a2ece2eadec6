-- Texts with what the number call answers by either choice: one table, a statement for each choice, proved by computation. The first
-- three show the three conditions under which the readers differ (crate numbers_difference); the others stand on either side of them.
use Rattle.std.specs.Prelude.{ℕ, ◌≡◌, refl, List, [], ◌∷◌, map, true, false, ℤ, pos, negsuc}
use Prim.Native.String.{String}
use Rattle.laws.specs.Quoted.{within}
use Rattle.laws.specs.Texts.{span, starts, same}
use Rattle.refusal.specs.Refusals.{not_utf8, unknown_choice}
use Rattle.chars.specs.Utf8 as chars
use Rattle.chars.specs.Encode as encode
use Rattle.digits.specs.declared.Int.TheVariants.{Small}
use Rattle.digits.specs.Digits.{digit_of, sign, uinteger, value, signed, whole_of, integer}
use Rattle.numbers.specs.declared.Real.{Real}
use Rattle.numbers.specs.declared.Real.TheVariants.{Integer, Rational, PosInf, NegInf, NegNan, ImpliedZero, ImpliedOne}
use Rattle.numbers.specs.declared.Parts.TheVariants.{Just, Complex, Polar}
use Rattle.numbers.specs.Reals as bought
use Rattle.numbers.specs.Grammar as bought-grammar
use Rattle.numbers.specs.Call.{Answer, parts, no_number, error, refused, zero_denominator, number}
use Rattle.laws.specs.Letters.{lower, is_sign}
use Rattle.numbers_standard.specs.Reals.{infnan, ratio, ureal, real}
use Rattle.numbers_standard.specs.Grammar.{ends_i, imaginary, alone_of, pair_of, joint, rectangular, complex, number_parts, parse_standard}
use Rattle.numbers_standard.specs.Call as call

abbrev small : ℤ → Real
small v = Integer (Small v)

-- a text, and the answers by choice 0 and by choice 1
record Row : Type 0 where
  text : List ℕ
  bought : Answer
  standard : Answer

abbrev row : String → Answer → Answer → Row
row t a b = record { text = encode.spelled t; bought = a; standard = b }

-- a text on which both readers agree
abbrev both : String → Answer → Row
both t a = row t a a

table : List Row
table =
    row "1@1/-2" (parts (Polar (small (pos 1)) (Rational (Small (pos 1)) (Small (negsuc 1))))) no_number ∷
    row "+I" no_number (parts (Complex ImpliedZero (ImpliedOne false))) ∷
    row "#xe+1i" no_number (parts (Complex (small (pos 14)) (small (pos 1)))) ∷
    row "1/-0@1" (error zero_denominator) no_number ∷
    row "+INF.0" no_number (parts (Just PosInf)) ∷
    row "+inF.0" no_number (parts (Just PosInf)) ∷
    row "-nAn.0-I" no_number (parts (Complex NegNan (ImpliedOne true))) ∷
    row "1/0+I" no_number (error zero_denominator) ∷
    row "#xeEe-inf.0i" no_number (parts (Complex (small (pos 0xEEE)) NegInf)) ∷
    both "#xee+1i" (parts (Complex (small (pos 0xEE)) (small (pos 1)))) ∷
    both "#XFA" (parts (Just (small (pos 0xFA)))) ∷
    both "1/-2" no_number ∷
    both "1/0" (error zero_denominator) ∷
    both "+INF.0@1/-2" no_number ∷
    both "1e+1i" no_number ∷
    both "+i" (parts (Complex ImpliedZero (ImpliedOne false))) ∷
    both "." no_number ∷
    both "#d" no_number ∷
    both "1e5/2" no_number ∷
    both "#e1" no_number ∷
    both "" no_number ∷
    both "é" no_number ∷
    record { text = 0x31 ∷ 0xFF ∷ []; bought = refused not_utf8 1; standard = refused not_utf8 1 } ∷
    []

by_bought : map (λ r. call.number_by call.bought r.text) table ≡ map (λ r. r.bought) table
-- the list only permits the computing
unfolding table within span starts same digit_of sign uinteger value signed whole_of integer bought.exponent_marker bought.exponent
    bought.suffix bought.point_of bought.dotted bought.undotted bought.decimal bought.infnan bought.integral_of bought.rational_of
    bought.denominator bought.exact bought.or_else bought.ureal bought.real bought-grammar.just_of bought-grammar.complex_of
    bought-grammar.polar_of bought-grammar.ends_i bought-grammar.imaginary bought-grammar.alone_of bought-grammar.pair_of bought-grammar.to_sign
    bought-grammar.starts_e bought-grammar.rectangular bought-grammar.complex bought-grammar.zero_int bought-grammar.zero_real
    bought-grammar.zero_parts bought-grammar.judged bought-grammar.radix_mark bought-grammar.prefix bought-grammar.parse_number number
    chars.first chars.rest chars.front chars.sequences chars.first_bad encode.utf8 encode.bytes_of call.number_by
by_bought = refl

by_standard_lem : map (λ r. call.number_by call.standard r.text) table ≡ map (λ r. r.standard) table
-- the list only permits the computing
unfolding table within span starts same digit_of sign uinteger value signed whole_of bought.exponent_marker bought.exponent bought.suffix
    bought.point_of bought.dotted bought.undotted bought.decimal bought.infnan bought.integral_of bought.rational_of bought.or_else
    bought-grammar.just_of bought-grammar.complex_of bought-grammar.polar_of bought-grammar.to_sign bought-grammar.starts_e
    bought-grammar.zero_int bought-grammar.zero_real bought-grammar.zero_parts bought-grammar.judged bought-grammar.radix_mark
    bought-grammar.prefix lower is_sign infnan ratio ureal real ends_i imaginary alone_of pair_of joint rectangular complex number_parts
    parse_standard chars.first chars.rest chars.front chars.sequences chars.first_bad encode.utf8 encode.bytes_of call.by_standard call.number_by
by_standard_lem = refl

-- any other choice is refused, before a text that is not UTF-8
unknown : call.number_by 2 (0xFF ∷ []) ≡ refused unknown_choice 0
unfolding call.number_by
unknown = refl
