-- Some short texts to crate numbers' grammar, by computation: a sign alone and a dot alone are no numbers, the four of <infnan> are.
use Rattle.std.proofs.Common.{Ok, Err}
use Prim.Native.Nat.{ℕ}
use mathlib.Core.Path.{◌≡◌, refl}
use mathlib.Core.Bool.{true}
use mathlib.Core.List.{List, [], ◌∷◌}
use Rattle.laws.specs.Quoted.{codes, one_of, within}
use Rattle.laws.specs.Texts.{span, starts, begins, same}
use Rattle.chars.specs.Encode.{utf8, bytes_of}
use Rattle.digits.specs.Digits.{digit_of, sign, uinteger, value, fit, signed, whole_of, integer}
use Rattle.numbers.specs.declared.Parts.{Parts}
use Rattle.numbers.specs.declared.Parts.TheVariants.{Just}
use Rattle.numbers.specs.declared.Real.TheVariants.{PosInf, NegInf, PosNan, NegNan}
use Rattle.numbers.specs.declared.ParseError.TheVariants as parsed
use Rattle.numbers.specs.Grammar.{just_of, complex_of, polar_of, ends_i, imaginary, alone_of, pair_of, to_sign, starts_e, rectangular, complex}
use Rattle.numbers.specs.Grammar.{zero_int, zero_real, zero_parts, judged, radix_mark, prefix, parse_number}
use Rattle.numbers.specs.Reals.{exponent_marker, exponent, suffix, point_of, dotted, undotted, decimal, infnan, integral_of, rational_of, denominator, exact, or_else, ureal, real}
use Rattle.items_r7rs.specs.Number.{Infnan, plus_inf, minus_inf, plus_nan, minus_nan}
use Rattle.items_r7rs.proofs.Classes.{at_one_of}

pub lone_no_number : (c : ℕ) → one_of (codes "+-.") c ≡ true → parse_number (bytes_of (c ∷ [])) ≡ Err parsed.NoNumber
-- the list only permits the computing
unfolding span starts begins same utf8 bytes_of within digit_of sign uinteger value fit signed whole_of integer exponent_marker exponent suffix
    point_of dotted undotted decimal infnan integral_of rational_of denominator exact or_else ureal real just_of complex_of polar_of ends_i
    imaginary alone_of pair_of to_sign starts_e rectangular complex zero_int zero_real zero_parts judged radix_mark prefix parse_number
lone_no_number c h = at_one_of (λ k. parse_number (bytes_of (k ∷ []))) (Err parsed.NoNumber) (codes "+-.") c refl h

pub infnan_number : {t : List ℕ} → Infnan t → (p : Parts) × (parse_number (bytes_of t) ≡ Ok p)
-- the list only permits the computing
unfolding span starts begins same utf8 bytes_of within digit_of sign uinteger value fit signed whole_of integer exponent_marker exponent suffix
    point_of dotted undotted decimal infnan integral_of rational_of denominator exact or_else ureal real just_of complex_of polar_of ends_i
    imaginary alone_of pair_of to_sign starts_e rectangular complex zero_int zero_real zero_parts judged radix_mark prefix parse_number
infnan_number plus_inf = (Just PosInf, refl)
infnan_number minus_inf = (Just NegInf, refl)
infnan_number plus_nan = (Just PosNan, refl)
infnan_number minus_nan = (Just NegNan, refl)
