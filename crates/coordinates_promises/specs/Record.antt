-- The coordinate of a record's extent: `coordinates::record_coordinate` ensures `answered r ≡ record_coordinate source kind start end`.
use Rattle.std.specs.Prelude.{ℕ, ◌≡◌, refl, false, List, [], ◌∷◌, negsuc}
use Rattle.std.proofs.Common.{sym, ◌∙◌}
use Rattle.std.specs.Float.{fin}
use Rattle.std.specs.Float.Ieee.{round}
use Rattle.laws.specs.Quoted.{codes, within}
use Rattle.laws.specs.Texts.{span, starts}
use Rattle.refusal.specs.Refusals.{not_utf8, out_of_bounds}
use Rattle.chars.specs.Utf8.{first_bad, sequences, front, rest, first}
use Rattle.digits.specs.Digits.{digit_of, sign, uinteger, value, signed}
use Rattle.numbers.specs.Reals.{exponent_marker, exponent, suffix, point_of, dotted, undotted, decimal, point_in, one_decimal}
use Rattle.items.specs.Kinds as kind
use Rattle.coordinates.specs.Answers.{float, refused, answered, CoordinateAnswer}
use Rattle.coordinates.specs.Coordinate.{all_digits, scale, scaled, outside, of_point, of_decimal, judged, coordinate, record_coordinate}
use Rattle.coordinates_promises.specs.Text.{answered_one}

pub one_record_answer : (s : List ℕ) (k from to : ℕ) (a b : CoordinateAnswer)
    → answered a ≡ record_coordinate s k from to → answered b ≡ record_coordinate s k from to → a ≡ b
one_record_answer s k from to a b h k' = answered_one a b (h ∙ sym k')

-- the number at 3..6 of a source, and no more of it than its extent
pub corner : record_coordinate (codes "(a 1.5 2.5)") kind.Number 3 6 ≡ float (fin false 3 (negsuc 0))
-- the list only permits the computing
unfolding record_coordinate coordinate judged one_decimal point_in of_decimal of_point all_digits scale scaled value decimal dotted undotted suffix
    exponent uinteger point_of signed first_bad sequences front first rest round starts span sign digit_of exponent_marker within
corner = refl

-- an identifier has no coordinate, even one that is spelled like a decimal
no_number : record_coordinate (codes "(a 1.5 2.5)") kind.Identifier 3 6 ≡ outside
unfolding record_coordinate judged first_bad sequences front first rest within
no_number = refl

-- its text is asked for its bytes before its kind is
bad_bytes : record_coordinate (0x61 ∷ 0xFF ∷ []) kind.Identifier 0 2 ≡ refused not_utf8 1
unfolding record_coordinate judged first_bad sequences front first rest within
bad_bytes = refl

-- an extent that passes its source, and one that goes back, whatever the kind
passes : record_coordinate (codes "1.5") kind.Number 0 4 ≡ refused out_of_bounds 0
unfolding record_coordinate
passes = refl

goes_back : record_coordinate (codes "1.5") kind.Identifier 3 2 ≡ refused out_of_bounds 0
unfolding record_coordinate
goes_back = refl
