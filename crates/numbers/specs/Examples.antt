-- E5, E6, E7 and E15 of document 01, and texts around every rule, with what the number call answers: one table, one statement, proved
-- by computation.
use Rattle.std.specs.Prelude.{ℕ, ◌≡◌, refl, List, [], ◌∷◌, map, Bool, true, false, ℤ, pos, negsuc}
use Prim.Native.String.{String}
use Rattle.laws.specs.Quoted.{within}
use Rattle.laws.specs.Texts.{span, starts, same}
use Rattle.refusal.specs.Refusals.{not_utf8}
use Rattle.chars.specs.Utf8 as chars
use Rattle.chars.specs.Encode as encode
use Rattle.digits.specs.declared.Span.{Span}
use Rattle.digits.specs.declared.Int.TheVariants.{Small, Big}
use Rattle.digits.specs.Digits.{digit_of, sign, uinteger, value, signed, whole_of, integer}
use Rattle.numbers.specs.declared.Real.{Real}
use Rattle.numbers.specs.declared.Real.TheVariants.{Integer, Rational, Decimal, PosInf, NegInf, PosNan, NegNan, ImpliedZero, ImpliedOne}
use Rattle.numbers.specs.declared.Parts.TheVariants.{Just, Complex, Polar}
use Rattle.numbers.specs.Reals.{exponent_marker, exponent, suffix, point_of, dotted, undotted, decimal, infnan, integral_of, rational_of, denominator, exact, or_else, ureal, real}
use Rattle.numbers.specs.Grammar.{just_of, complex_of, polar_of, ends_i, imaginary, alone_of, pair_of, to_sign, starts_e, rectangular}
use Rattle.numbers.specs.Grammar.{complex, zero_int, zero_real, zero_parts, judged, radix_mark, prefix, parse_number}
use Rattle.numbers.specs.Call.{Answer, parts, no_number, error, refused, zero_denominator, number}

abbrev small : ℤ → Real
small v = Integer (Small v)

-- the places from a to before b
abbrev places : ℕ → ℕ → Span
places a b = record { start = a; end = b }

-- a decimal: whether it is negative, the places of its whole digits and of its fraction's, whether its exponent is negative, and that one's
abbrev point : Bool → Span → Span → Bool → Span → Real
point neg w f m e = Decimal (record { negative = neg; whole = w; fraction = f; exponent = record { negative = m; digits = e } })

record Row : Type 0 where
  text : List ℕ
  answer : Answer

abbrev row : String → Answer → Row
row t a = record { text = encode.spelled t; answer = a }

table : List Row
table =
    row "1/0" (error zero_denominator) ∷  -- E5
    row "1/-2" no_number ∷  -- E6
    row "1@1/-2" (parts (Polar (small (pos 1)) (Rational (Small (pos 1)) (Small (negsuc 1))))) ∷  -- E7
    row "#xe+1i" no_number ∷  -- E15
    row "#xee+1i" (parts (Complex (small (pos 0xEE)) (small (pos 1)))) ∷
    row "" no_number ∷
    row "-" no_number ∷
    row "-0" (parts (Just (small (pos 0)))) ∷
    row "1_0" no_number ∷
    row "9223372036854775807" (parts (Just (small (pos 9223372036854775807)))) ∷
    row "9223372036854775808" (parts (Just (Integer (Big false (places 0 19))))) ∷
    row "-9223372036854775808" (parts (Just (small (negsuc 9223372036854775807)))) ∷
    row "#d-8000000000000000000000000000000" (parts (Just (Integer (Big true (places 3 34))))) ∷
    row "#b102" no_number ∷
    row "#o17/20" (parts (Just (Rational (Small (pos 15)) (Small (pos 16))))) ∷
    row "#XfF/-0@1" (error zero_denominator) ∷
    row "1/0@x" no_number ∷
    row "1/2/3" no_number ∷
    row "#e1" no_number ∷
    row "14.7" (parts (Just (point false (places 0 2) (places 3 4) false (places 4 4)))) ∷
    row "-.5E+10" (parts (Just (point true (places 1 1) (places 2 3) false (places 5 7)))) ∷
    row "1.e-5" (parts (Just (point false (places 0 1) (places 2 2) true (places 4 5)))) ∷
    row "." no_number ∷
    row "1e" no_number ∷
    row "e5" no_number ∷
    row "#x1.5" no_number ∷
    row "+i" (parts (Complex ImpliedZero (ImpliedOne false))) ∷
    row "+5i" (parts (Complex ImpliedZero (small (pos 5)))) ∷
    row "5i" no_number ∷
    row "+I" no_number ∷
    row "1e2-i" (parts (Complex (point false (places 0 1) (places 1 1) false (places 2 3)) (ImpliedOne true))) ∷
    row "1+2+3i" no_number ∷
    row "+inf.0-nan.0i" (parts (Complex PosInf NegNan)) ∷
    row "#x-inf.0@+nan.0" (parts (Polar NegInf PosNan)) ∷
    row "+INF.0" no_number ∷
    row "1@2@3" no_number ∷
    row "é/1" no_number ∷
    record { text = 0x31 ∷ 0xFF ∷ []; answer = refused not_utf8 1 } ∷
    []

computed : map (λ r. number r.text) table ≡ map (λ r. r.answer) table
-- the list only permits the computing
unfolding table within span starts same digit_of sign uinteger value signed whole_of integer exponent_marker exponent suffix point_of dotted
    undotted decimal infnan integral_of rational_of denominator exact or_else ureal real just_of complex_of polar_of ends_i imaginary alone_of
    pair_of to_sign starts_e rectangular complex zero_int zero_real zero_parts judged radix_mark prefix parse_number number chars.first chars.rest
    chars.front chars.sequences chars.first_bad encode.utf8 encode.bytes_of
computed = refl
