-- What a value of the coordinate call means, over whole numbers. proofs/Means shows that the call gives x exactly if this holds of x.
use Rattle.std.specs.Prelude.{◌≡◌, ℕ, ◌<◌, ◌≤◌, true, false, List, Float, None, Some}
use Rattle.numbers.specs.declared.Point.{Point}
use Rattle.numbers.specs.Reals.{one_decimal}
use Rattle.coordinates.specs.Coordinate.{all_digits, scale, most_digits, numerator, denominator, in_range}
use Rattle.coordinates.specs.Nearest.{Nearest}

-- the text is one decimal, its m and s lie inside, and x is m * 10 ^ s with its sign, rounded once
pub record Means (text : List ℕ) (x : Float) : Type 0 where
  pub point : Point
  pub decimal : one_decimal text ≡ Some point
  pub digits : all_digits text point ≤ most_digits
  pub range : in_range (scale text point) ≡ true
  pub nearest : Nearest point.negative (numerator (all_digits text point) (scale text point)) (denominator (scale text point)) x

-- "28 exactly if m or s lies outside, or the text isn't one decimal as 01 has it"
pub data Outside (text : List ℕ) : Type 0 where
  no_decimal : one_decimal text ≡ None → Outside text
  too_many_digits : (p : Point) → one_decimal text ≡ Some p → most_digits < all_digits text p → Outside text
  out_of_range : (p : Point) → one_decimal text ≡ Some p → in_range (scale text p) ≡ false → Outside text
