-- The value of a number: a decimal's is its coordinate, and an integer's that of the decimal that it is with a dot behind it.
use Rattle.std.specs.Prelude.{ℕ, ◌-◌, Bool, false, List, length, take, drop, nat_eq, nat_le, nat_lt, if◌then◌else◌}
use Rattle.refusal.specs.Refusals.{over_long, out_of_bounds, limit}
use Rattle.digits.specs.declared.Span.{Span}
use Rattle.digits.specs.Digits.{sign, negative, uinteger}
use Rattle.numbers.specs.declared.Point.{Point}
use Rattle.items.specs.Kinds as kind
use Rattle.coordinates.specs.Answers.{Answer, refused}
use Rattle.coordinates.specs.Coordinate.{of_point, coordinate, record_coordinate}

-- "an optional sign, then one or more digits of the radix" (01, Integer)
unfoldable pub is_whole : List ℕ → Bool
is_whole s = uinteger 10 (drop (sign s) s)

abbrev places : ℕ → ℕ → Span
places a b = record { start = a; «end» = b }

-- all its digits, no fraction digits, no exponent
abbrev pub whole_point : List ℕ → Point
whole_point s = record {
  negative = negative s;
  whole = places (sign s) (length s);
  fraction = places (length s) (length s);
  exponent = record { negative = false; digits = places (length s) (length s) };
}

-- a number's f64: a decimal's by (ix), or that of an integer up to 2^53; else 28
unfoldable pub value : List ℕ → Answer
value s = if nat_lt limit (length s) then refused over_long limit else if is_whole s then of_point s (whole_point s) else coordinate s

-- of a record's extent: 27 and 28 as with its coordinate
unfoldable pub record_value : List ℕ → ℕ → ℕ → ℕ → Answer
record_value source k from to =
    if nat_le from to
    then (
    if nat_le to (length source)
    then (if nat_eq k kind.Number then value (take (to - from) (drop from source)) else record_coordinate source k from to)
    else refused out_of_bounds 0)
    else refused out_of_bounds 0
