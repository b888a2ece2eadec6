-- What the functions within answer.
use Rattle.numbers.specs.declared.Point.{Point}
use Rattle.std.specs.Prelude.{◌≡◌, ℕ, ◌+◌, ◌^◌, ◌<◌, Bool, false, ◌&&◌, List, length, drop, ℤ, pos, ◌-ℤ◌, neg_ℤ, nat_le, Float, if◌then◌else◌, None, Option, Some}
use Rattle.std.specs.Float.{fin}
use Rattle.digits.specs.declared.Run.{Run}
use Rattle.digits.specs.Digits.{digits, sign, negative, value, run_value, short, signed}
use Rattle.numbers.specs.declared.Suffix.{Suffix}
use Rattle.numbers.specs.declared.Suffix.TheVariants.{Empty, Marked, Bad}
use Rattle.numbers.specs.Reals.{one_decimal}
use Rattle.coordinates.specs.Answers.{Answer}
use Rattle.coordinates.specs.Coordinate.{slice, most_digits, scaled, outside, of_point, judged}
use Rattle.coordinates.specs.Values.{is_whole, whole_point}

-- 10 ^ k is 5 ^ k * 2 ^ k, and 5 ^ k is odd
unfoldable pub ten_to : ℕ → Float
ten_to k = fin false (5 ^ k) (pos k)

-- a whole number that is not too large; all that are count alike
unfoldable pub capped : ℕ → ℕ
capped n = if nat_le n most_digits then n else most_digits + 1

-- a value of digits before the place i that leaves room for one digit more
abbrev pub Held : ℕ → ℕ → Type 0
Held v i = (v < 10 ^ short) × (v < 10 ^ i)

-- m * 10 ^ s with its sign, where m is not too large
unfoldable pub weighed : Bool → ℕ → ℤ → Answer
weighed neg m s = if nat_le m most_digits then scaled neg m s else outside

-- a text whose digits have the value m, f of them in the fraction, by what follows them
unfoldable pub suffixed : List ℕ → Bool → ℕ → ℕ → Suffix → Answer
suffixed s neg m f Empty = weighed neg m (neg_ℤ (pos f))
suffixed s neg m f (Marked e) = weighed neg m (signed e.negative (value 10 0 (slice e.digits s)) -ℤ pos f)
suffixed s neg m f Bad = judged s outside

-- a text that may be one decimal: where it is one it is UTF-8 (proofs/Ascii, decimal-good)
unfoldable pub told : List ℕ → Option Point → Answer
told s (Some p) = of_point s p
told s None = judged s outside

-- its coordinate, or, where integers are wanted too, its value
unfoldable pub wanted : Bool → List ℕ → Answer
wanted wholes s = if wholes && is_whole s then of_point s (whole_point s) else told s (one_decimal s)

-- the sign of a text and the digits after it are passed: w tells where they end and their value
abbrev pub Passed : List ℕ → Bool → ℕ → Run → Type 0
Passed s neg p w =
    (neg ≡ negative s) × (p ≡ sign s) × (w.end ≡ p + digits 10 (drop p s)) × (capped w.value ≡ capped (run_value 0 (drop p s)))
    × Held w.value w.end × (length s < 2 ^ 32)
