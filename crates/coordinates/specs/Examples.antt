-- Worked examples: a text and its answer, one table under one statement.
use Rattle.std.specs.Prelude.{◌≡◌, true, false, List, [], ◌∷◌, map, pos, negsuc, refl}
use Prim.Native.String.{String}
use Rattle.std.specs.RustNames.{from_bits}
use Rattle.std.specs.Float.{fin, binary64}
use Rattle.std.specs.Float.Ieee.{round}
use Rattle.laws.specs.Quoted.{codes, within}
use Rattle.laws.specs.Texts.{span, starts}
use Rattle.refusal.specs.Refusals.{not_utf8}
use Rattle.chars.specs.Utf8.{first_bad, sequences, front, rest, first}
use Rattle.digits.specs.Digits.{digit_of, sign, uinteger, value, signed}
use Rattle.numbers.specs.Reals.{exponent_marker, exponent, suffix, point_of, dotted, undotted, decimal, point_in, one_decimal}
use Rattle.coordinates.specs.Answers.{Answer, float, refused}
use Rattle.coordinates.specs.Coordinate.{all_digits, scale, scaled, outside, of_point, of_decimal, judged, coordinate}

pub record Row : Type 0 where
  pub text : String
  pub answer : Answer

-- a finite f64: its sign, and m * 2 ^ e
abbrev row : String → Answer → Row
row t a = record { text = t; answer = a }

unfoldable pub table : List Row
table =
    row "1.5" (float (fin false 3 (negsuc 0)))
    ∷ row "-0.0" (float (fin true 0 (pos 0)))
    ∷ row "0e-22" (float (fin false 0 (pos 0)))
    ∷ row "1." (float (fin false 1 (pos 0)))
    ∷ row "-.5" (float (fin true 1 (negsuc 0)))
    ∷ row "+1e5" (float (fin false 3125 (pos 5)))
    ∷ row "0.1" (float (from_bits binary64 0x3FB9_9999_9999_999A))
    ∷ row "1.5E-03" (float (from_bits binary64 0x3F58_9374_BC6A_7EFA))
    -- 5 ^ 22 * 2 ^ 22
    ∷ row "1e22" (float (fin false 2384185791015625 (pos 22)))
    ∷ row "1e23" outside
    ∷ row "0.0000000000000000000001" (float (from_bits binary64 0x3B5E_3920_1017_5EE6))
    ∷ row "9007199254740992." (float (fin false 1 (pos 53)))
    ∷ row "9007199254740993." outside
    ∷ row "00000000000000000000009007199254740992." (float (fin false 1 (pos 53)))
    ∷ row "900719925474099.20" outside
    -- a tie: 9007199254740995 * 2 lies half way between two numbers, and the even one is above
    ∷ row "1801439850948199e1" (float (fin false 2251799813685249 (pos 3)))
    ∷ row "1.00000000000000000" outside
    ∷ row "0e23" outside
    ∷ row "0.0e23" (float (fin false 0 (pos 0)))
    ∷ row "1e18446744073709551616" outside
    ∷ row "12" outside
    ∷ row "+inf.0" outside
    ∷ row "#d1.5" outside
    ∷ row "1.5i" outside
    ∷ row "" outside
    ∷ []

pub computed : map (λ r. coordinate (codes r.text)) table ≡ map (λ r. r.answer) table
-- the list only permits the computing
unfolding table coordinate judged one_decimal point_in of_decimal of_point all_digits scale scaled value decimal dotted undotted suffix exponent
    uinteger point_of signed first_bad sequences front round from_bits first starts span sign digit_of exponent_marker within
computed = refl

pub not_utf8_holds : coordinate (0x31 ∷ 0x2E ∷ 0xC3 ∷ []) ≡ refused not_utf8 2
unfolding coordinate judged first_bad sequences front first rest within
not_utf8_holds = refl
