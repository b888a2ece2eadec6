-- The value of a record's extent: `coordinates::record_value` ensures `answered r ≡ record_value source kind start end`.
use Rattle.std.specs.Prelude.{ℕ, ◌≡◌, refl, true, false, List, [], ◌∷◌, map, pos, negsuc}
use Rattle.std.proofs.Common.{sym, ◌∙◌, arith}
use Prim.Native.String.{String}
use Rattle.std.specs.Float.{fin}
use Rattle.std.specs.Float.Ieee.{round}
use Rattle.laws.specs.Quoted.{codes, within}
use Rattle.laws.specs.Texts.{span, starts}
use Rattle.chars.specs.Utf8.{first_bad, sequences, front, rest, first}
use Rattle.digits.specs.Digits as digits
use Rattle.digits.specs.Digits.{digit_of, sign, uinteger, signed}
use Rattle.numbers.specs.Reals.{exponent_marker, exponent, suffix, point_of, dotted, undotted, decimal, point_in, one_decimal}
use Rattle.items.specs.Kinds as kind
use Rattle.coordinates.specs.Answers.{Answer, float, refused, answered, CoordinateAnswer}
use Rattle.coordinates.specs.Coordinate.{all_digits, scale, scaled, outside, of_point, of_decimal, judged, coordinate, record_coordinate}
use Rattle.coordinates.specs.Values.{is_whole, value, record_value}
use Rattle.coordinates_promises.specs.Text.{answered_one}

pub one_value_answer : (s : List ℕ) (k from to : ℕ) (a b : CoordinateAnswer)
    → answered a ≡ record_value s k from to → answered b ≡ record_value s k from to → a ≡ b
one_value_answer s k from to a b h k' = answered_one a b (h ∙ sym k')

pub record Row : Type 0 where
  pub text : String
  pub answer : Answer

abbrev row : String → Answer → Row
row t a = record { text = t; answer = a }

unfoldable pub table : List Row
table =
    -- 6892014 is 2 * 3446007
    row "6892014" (float (fin false 3446007 (pos 1)))
    ∷ row "-3" (float (fin true 3 (pos 0)))
    ∷ row "+12" (float (fin false 3 (pos 2)))
    ∷ row "1.5" (float (fin false 3 (negsuc 0)))
    ∷ row "9007199254740992" (float (fin false 1 (pos 53)))
    ∷ row "9007199254740993" outside
    ∷ row "1/2" outside
    ∷ row "-" outside
    ∷ row "12m" outside
    ∷ []

pub values_computed : map (λ r. value (codes r.text)) table ≡ map (λ r. r.answer) table
-- the list only permits the computing
unfolding table value is_whole coordinate judged one_decimal point_in of_decimal of_point all_digits scale scaled digits.value decimal dotted undotted suffix
    exponent uinteger point_of signed first_bad sequences front first rest round starts span sign digit_of exponent_marker within
values_computed = refl

-- the integer at 3..5 of a source
whole_corner : record_value (codes "(a 12 2.5)") kind.Number 3 5 ≡ float (fin false 3 (pos 2))
unfolding record_value value is_whole of_point all_digits scale scaled digits.value uinteger signed round starts span sign digit_of within
whole_corner = refl

-- an identifier has no value, even one that is spelled like an integer
no_value : record_value (codes "(a 12 2.5)") kind.Identifier 3 5 ≡ outside
unfolding record_value record_coordinate judged first_bad sequences front first rest within
no_value = refl
