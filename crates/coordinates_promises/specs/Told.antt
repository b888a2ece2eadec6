-- What C gets: the answer's number, the value and the place as `mihadrena_coordinate` and `mihadrena_record_coordinate` ensure them.
use Rattle.std.specs.Prelude.{ℕ, ◌≡◌, refl, true, false, [], ◌∷◌, pos, negsuc, Float}
use Rattle.std.specs.Float.{fin}
use Rattle.std.specs.Float.Ieee.{round}
use Rattle.laws.specs.Quoted.{codes, within}
use Rattle.laws.specs.Texts.{span, starts}
use Rattle.laws.proofs.Choice.{impossible}
use Rattle.chars.specs.Utf8.{first_bad, sequences, front, rest, first}
use Rattle.digits.specs.Digits.{digit_of, sign, uinteger, value, signed}
use Rattle.numbers.specs.Reals.{exponent_marker, exponent, suffix, point_of, dotted, undotted, decimal, point_in, one_decimal}
use Rattle.items.specs.Kinds as kind
use Rattle.coordinates.specs.Answers.{Answer}
use Rattle.coordinates.specs.Coordinate.{all_digits, scale, scaled, of_point, of_decimal, judged, coordinate, record_coordinate}
use Rattle.coordinates_exports.specs.Told.{number_of, value_or, place_or}

-- all that a call leaves: its result and the two places lent
record Seen : Type 0 where
  number : ℕ
  value : Float
  place : ℕ

-- what is lent before a call: the value 1, the place 7
abbrev seen : Answer → Seen
seen a = record { number = number_of a; value = value_or (fin false 1 (pos 0)) a; place = place_or 7 a }

abbrev sees : ℕ → Float → ℕ → Seen
sees n x p = record { number = n; value = x; place = p }

-- a value is written, and the place stays
value_told : seen (coordinate (codes "-1.5")) ≡ sees 0 (fin true 3 (negsuc 0)) 7
-- the list only permits the computing
unfolding coordinate judged one_decimal point_in of_decimal of_point all_digits scale scaled value decimal dotted undotted suffix exponent uinteger
    point_of signed first_bad sequences front first rest round starts span sign digit_of exponent_marker within
value_told = refl

-- a refusal's place is written, and the value stays
refusal_told : seen (coordinate (0x31 ∷ 0x2E ∷ 0xFF ∷ [])) ≡ sees 21 (fin false 1 (pos 0)) 2
-- the list only permits the computing
unfolding coordinate judged one_decimal point_in of_decimal of_point all_digits scale scaled value decimal dotted undotted suffix exponent uinteger
    point_of signed first_bad sequences front first rest round starts span sign digit_of exponent_marker within
refusal_told = refl

record_told : seen (record_coordinate (codes "(1.5)") kind.Number 1 4) ≡ sees 0 (fin false 3 (negsuc 0)) 7
-- the list only permits the computing
unfolding record_coordinate coordinate judged one_decimal point_in of_decimal of_point all_digits scale scaled value decimal dotted undotted suffix
    exponent uinteger point_of signed first_bad sequences front first rest round starts span sign digit_of exponent_marker within
record_told = refl

extent_told : seen (record_coordinate (codes "(1.5)") kind.Number 1 6) ≡ sees 27 (fin false 1 (pos 0)) 0
unfolding record_coordinate
extent_told = refl

-- no program that leaves the value as it was meets the promise
never_unwritten : value_or (fin false 1 (pos 0)) (coordinate (codes "-0.0")) ≡ fin false 1 (pos 0) → ⊥
-- the list only permits the computing
unfolding coordinate judged one_decimal point_in of_decimal of_point all_digits scale scaled value decimal dotted undotted suffix exponent uinteger
    point_of signed first_bad sequences front first rest round starts span sign digit_of exponent_marker within
never_unwritten h = impossible cc
