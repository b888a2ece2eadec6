-- The coordinate of a text: `coordinates::coordinate` ensures `answered r ≡ coordinate t`.
use Rattle.std.specs.Prelude.{ℕ, ◌≡◌, refl, true, false, List, [], ◌∷◌, eqb, pos, if◌then◌else◌, Ok, Err}
use Rattle.std.proofs.Common.{sym, ap, ◌∙◌}
use Rattle.std.specs.Float.{fin, binary64}
use Rattle.std.specs.Float.Ieee.{of_bits, round}
use Rattle.laws.specs.Quoted.{codes, within}
use Rattle.laws.specs.Texts.{span, starts}
use Rattle.refusal.specs.Refusals.{over_long, not_utf8, out_of_bounds}
use Rattle.chars.specs.Utf8.{first_bad, sequences, front, rest, first}
use Rattle.digits.specs.Digits.{digit_of, sign, uinteger, value, signed}
use Rattle.numbers.specs.Reals.{exponent_marker, exponent, suffix, point_of, dotted, undotted, decimal, point_in, one_decimal}
use Rattle.coordinates.specs.declared.CoordinateError.TheVariants as answer
use Rattle.coordinates.specs.Answers.{Answer, float, refused, answered, CoordinateAnswer}
use Rattle.coordinates.specs.Coordinate.{all_digits, scale, scaled, outside, of_point, of_decimal, judged, coordinate}

-- two answers that a contract permits coincide
pub answered_one : (a b : CoordinateAnswer) → answered a ≡ answered b → a ≡ b
answered_one a b e = sym (back-answered a) ∙ ap back e ∙ back-answered b
  where
    back : Answer → CoordinateAnswer
    back (float x) = Ok x
    back (refused n p) =
        if eqb n over_long then (Err answer.TooLong)
        else if eqb n not_utf8 then (Err (answer.NotUtf8 p))
        else if eqb n out_of_bounds then (Err answer.NoExtent)
        else (Err answer.NoCoordinate)

    back-answered : (a : CoordinateAnswer) → back (answered a) ≡ a
    back-answered (Ok x) = refl
    back-answered (Err answer.TooLong) = refl
    back-answered (Err (answer.NotUtf8 at)) = refl
    back-answered (Err answer.NoExtent) = refl
    back-answered (Err answer.NoCoordinate) = refl

pub one_answer : (t : List ℕ) (a b : CoordinateAnswer) → answered a ≡ coordinate t → answered b ≡ coordinate t → a ≡ b
one_answer t a b h k = answered_one a b (h ∙ sym k)

-- 10 ^ 22 is 5 ^ 22 * 2 ^ 22, the largest power of ten that is exact
pub largest_power : coordinate (codes "1e22") ≡ float (fin false 2384185791015625 (pos 22))
-- the list only permits the computing
unfolding coordinate judged one_decimal point_in of_decimal of_point all_digits scale scaled value decimal dotted undotted suffix exponent uinteger
    point_of signed first_bad sequences front first rest round starts span sign digit_of exponent_marker within
largest_power = refl

-- zero keeps its sign
pub minus_zero : coordinate (codes "-0.0") ≡ float (fin true 0 (pos 0))
-- the list only permits the computing
unfolding coordinate judged one_decimal point_in of_decimal of_point all_digits scale scaled value decimal dotted undotted suffix exponent uinteger
    point_of signed first_bad sequences front first rest round starts span sign digit_of exponent_marker within
minus_zero = refl

-- the fraction digits count under an exponent too: 0.00015
scaled_down : coordinate (codes "1.5e-4") ≡ float (of_bits binary64 0x3F23_A92A_3055_3261)
-- the list only permits the computing
unfolding coordinate judged one_decimal point_in of_decimal of_point all_digits scale scaled value decimal dotted undotted suffix exponent uinteger
    point_of signed first_bad sequences front first rest round starts span sign digit_of exponent_marker within of_bits
scaled_down = refl

-- 2 ^ 53 itself lies inside
most_digits_lem : coordinate (codes "9007199254740992.") ≡ float (fin false 1 (pos 53))
-- the list only permits the computing
unfolding coordinate judged one_decimal point_in of_decimal of_point all_digits scale scaled value decimal dotted undotted suffix exponent uinteger
    point_of signed first_bad sequences front first rest round starts span sign digit_of exponent_marker within
most_digits_lem = refl

-- half way between two floats the even one is taken, here the one above
half_way : coordinate (codes "1801439850948199e1") ≡ float (fin false 2251799813685249 (pos 3))
-- the list only permits the computing
unfolding coordinate judged one_decimal point_in of_decimal of_point all_digits scale scaled value decimal dotted undotted suffix exponent uinteger
    point_of signed first_bad sequences front first rest round starts span sign digit_of exponent_marker within
half_way = refl

-- a radix mark is no part of a decimal
marked : coordinate (codes "#d1.5") ≡ outside
-- the list only permits the computing
unfolding coordinate judged one_decimal point_in of_decimal of_point all_digits scale scaled value decimal dotted undotted suffix exponent uinteger
    point_of signed first_bad sequences front first rest round starts span sign digit_of exponent_marker within
marked = refl

-- all digits count for m, also where the value has few: this m is 10 ^ 17
long_one : coordinate (codes "1.00000000000000000") ≡ outside
-- the list only permits the computing
unfolding coordinate judged one_decimal point_in of_decimal of_point all_digits scale scaled value decimal dotted undotted suffix exponent uinteger
    point_of signed first_bad sequences front first rest round starts span sign digit_of exponent_marker within
long_one = refl

-- bytes that are no text are refused with 21 and the place of the first bad sequence
no_text : coordinate (0x31 ∷ 0x2E ∷ 0xFF ∷ []) ≡ refused not_utf8 2
-- the list only permits the computing
unfolding coordinate judged one_decimal point_in of_decimal of_point all_digits scale scaled value decimal dotted undotted suffix exponent uinteger
    point_of signed first_bad sequences front first rest round starts span sign digit_of exponent_marker within
no_text = refl
