-- A coordinate: a text that is one decimal, as a float of 64 bits. Sentences in quotes are those of the request "Coordinates as numbers".
use Rattle.std.specs.Prelude.{ℕ, suc, ◌-◌, ◌*◌, ◌^◌, Bool, leb, List, ◌++◌, length, take, drop, ℤ, pos, negsuc, ◌-ℤ◌, nat_eq, nat_le, nat_lt, if◌then◌else◌, None, Option, Some}
use Rattle.std.specs.Float.{binary64}
use Rattle.std.specs.Float.Ieee.{round}
use Rattle.refusal.specs.Refusals.{over_long, not_utf8, out_of_bounds, limit, no_coordinate}
use Rattle.chars.specs.Utf8.{first_bad}
use Rattle.digits.specs.declared.Span.{Span}
use Rattle.digits.specs.Digits.{value, signed}
use Rattle.numbers.specs.declared.Point.{Point}
use Rattle.numbers.specs.Reals.{one_decimal}
use Rattle.items.specs.Kinds as kind
use Rattle.coordinates.specs.Answers.{Answer, float, refused}

-- the bytes at the places d of a text
abbrev pub slice : Span → List ℕ → List ℕ
slice d s = take (d.end - d.start) (drop d.start s)

-- "all its digits as a whole number m"
unfoldable pub all_digits : List ℕ → Point → ℕ
all_digits s p = value 10 0 (slice p.whole s ++ slice p.fraction s)

-- "the exponent less the number of fraction digits as s"
unfoldable pub scale : List ℕ → Point → ℤ
scale s p = signed p.exponent.negative (value 10 0 (slice p.exponent.digits s)) -ℤ pos (p.fraction.end - p.fraction.start)

-- "m is at most 9,007,199,254,740,992", which is 2 ^ 53
abbrev pub most_digits : ℕ
most_digits = 9007199254740992

-- "s lies from -22 to 22"
abbrev pub most_scale : ℕ
most_scale = 22

abbrev pub in_range : ℤ → Bool
in_range (pos k) = nat_le k most_scale
in_range (negsuc k) = nat_le (suc k) most_scale

-- m * 10 ^ s as a fraction
abbrev pub numerator : ℕ → ℤ → ℕ
numerator m (pos k) = m * 10 ^ k
numerator m (negsuc k) = m

abbrev pub denominator : ℤ → ℕ
denominator (pos k) = 1
denominator (negsuc k) = 10 ^ suc k

-- 28 comes with nothing
abbrev pub outside : Answer
outside = refused no_coordinate 0

-- m * 10 ^ s with its sign, rounded once
unfoldable pub scaled : Bool → ℕ → ℤ → Answer
scaled neg m s = if in_range s then float (round binary64 neg (numerator m s) (denominator s)) else outside

-- "28 exactly if m or s lies outside,
unfoldable pub of_point : List ℕ → Point → Answer
of_point s p = if nat_le (all_digits s p) most_digits then scaled p.negative (all_digits s p) (scale s p) else outside

-- or the text isn't one decimal as 01 has it"
unfoldable pub of_decimal : List ℕ → Option Point → Answer
of_decimal s (Some p) = of_point s p
of_decimal s None = outside

abbrev pub checked : Option ℕ → Answer → Answer
checked None a = a
checked (Some at) a = refused not_utf8 at

-- "20 and 21 first": what they leave to a text
unfoldable pub judged : List ℕ → Answer → Answer
judged s a = if nat_lt limit (length s) then refused over_long limit else checked (first_bad s) a

unfoldable pub coordinate : List ℕ → Answer
coordinate s = judged s (of_decimal s (one_decimal s))

-- The coordinate of a record's extent, by the record's kind and its extent's two places: 27 where they go back or pass the source, as in
-- the text call; else 20 and 21 of the extent's text; then 28 where the record is no Number; else what the text gives.
unfoldable pub record_coordinate : List ℕ → ℕ → ℕ → ℕ → Answer
record_coordinate source k from to =
    let text : List ℕ = take (to - from) (drop from source) in
    if nat_le from to
    then (if leb to (length source) then judged text (if nat_eq k kind.Number then of_decimal text (one_decimal text) else outside) else refused out_of_bounds 0)
    else refused out_of_bounds 0
