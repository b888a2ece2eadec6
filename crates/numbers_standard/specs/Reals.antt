-- A real number by the standard: R7RS 7.1.1's <real R> and the productions below it, a function for a production, under its name.
-- <uinteger R>, <decimal 10>, <suffix> and <sign> are those of the bought reader (crate numbers), which follows the standard there.
-- s is a part of the text as a list of bytes, p the place of the text where that part starts, R the radix, neg whether a minus sign
-- stands before s. A production is matched by the whole of s.
use Rattle.numbers.specs.declared.Real.{Real}
use Rattle.std.specs.Prelude.{ℕ, ◌+◌, Bool, false, List, map, length, take, drop, ltb, eqb, if◌then◌else◌, None, Option}
use Rattle.laws.specs.Quoted.{code}
use Rattle.laws.specs.Texts.{before}
use Rattle.digits.specs.Digits.{sign, negative, whole_of}
use Rattle.numbers.specs.Reals.{decimal, integral_of, rational_of, or_else}
use Rattle.numbers.specs.Reals as bought
use Rattle.laws.specs.Letters.{lower}

-- <infnan> → +inf.0 | -inf.0 | +nan.0 | -nan.0, letters in either case: `+INF.0` is a number
unfoldable pub infnan : List ℕ → Option Real
infnan s = bought.infnan (map lower s)

-- <uinteger R> | <uinteger R> / <uinteger R>: the second has no sign either, so that `1@1/-2` is no number
unfoldable pub ratio : ℕ → Bool → ℕ → List ℕ → Option Real
ratio R neg p s =
    if ltb (before (code "/") s) (length s)
    then rational_of (whole_of R neg p (take (before (code "/") s) s))
    (whole_of R false (p + before (code "/") s + 1) (drop (before (code "/") s + 1) s))
    else integral_of (whole_of R neg p s)

-- <ureal R> → <uinteger R> | <uinteger R> / <uinteger R> | <decimal R>; there is a <decimal R> for 10 only
unfoldable pub ureal : ℕ → Bool → ℕ → List ℕ → Option Real
ureal R neg p s = or_else (if eqb R 10 then decimal neg p s else None) (ratio R neg p s)

-- <real R> → <sign> <ureal R> | <infnan>
unfoldable pub real : ℕ → ℕ → List ℕ → Option Real
real R p s = or_else (infnan s) (ureal R (negative s) (p + sign s) (drop (sign s) s))
