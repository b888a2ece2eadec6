-- A real number: R7RS 7.1.1's <real R> and the productions below it, a function for a production, under its name.
-- Where document 01 or the Rust departs from the grammar, a comment begins "Departure" and gives the smallest text that shows it.
-- s is a part of the text as a list of bytes, p the place of the text where that part starts, R the radix, neg whether a minus sign
-- stands before s. A production is matched by the whole of s.
use Rattle.numbers.specs.declared.Point.{Point}
use Rattle.numbers.specs.declared.Real.{Real}
use Rattle.digits.specs.declared.Int.{Int}
use Rattle.std.specs.Prelude.{ℕ, ◌+◌, Bool, false, ◌||◌, List, [], ◌∷◌, length, take, drop, ltb, eqb, if◌then◌else◌, None, Option, Some}
use Rattle.laws.specs.Quoted.{code, codes}
use Rattle.laws.specs.Texts.{before, starts, same}
use Rattle.digits.specs.declared.Span.{Span}
use Rattle.digits.specs.Digits.{digits, sign, negative, uinteger, span_at, whole_of, integer}
use Rattle.numbers.specs.declared.Real.TheVariants.{Integer, Rational, Decimal, PosInf, NegInf, PosNan, NegNan, ImpliedZero, ImpliedOne}
use Rattle.numbers.specs.declared.Suffix.{Suffix}
use Rattle.numbers.specs.declared.Suffix.TheVariants.{Empty, Marked, Bad}

-- <exponent marker> → e, in either case
unfoldable pub exponent_marker : ℕ → Bool
exponent_marker c = eqb c (code "e") || eqb c (code "E")

-- what follows the marker: <sign> <digit 10>+
unfoldable pub exponent : ℕ → List ℕ → Suffix
exponent p s =
    if uinteger 10 (drop (sign s) s)
    then Marked (record { negative = negative s; digits = span_at (p + sign s) (length (drop (sign s) s)) })
    else Bad

-- <suffix> → <empty> | <exponent marker> <sign> <digit 10>+
unfoldable pub suffix : ℕ → List ℕ → Suffix
suffix p [] = Empty
suffix p (c ∷ s) = if exponent_marker c then exponent (p + 1) s else Bad

-- a decimal's parts: its sign, the places w of the digits before a dot and f of those after it, and its suffix
unfoldable pub point_of : Bool → Span → Span → Suffix → Option Real
point_of neg w f Empty =
    Some (Decimal (record {
      negative =
          neg;
      whole = w;
      fraction = f;
      exponent = record { negative = false; digits = record { start = f.end; end = f.end } };
    }))
point_of neg w f (Marked e) = Some (Decimal (record { negative = neg; whole = w; fraction = f; exponent = e }))
point_of neg w f Bad = None

-- <decimal 10> → . <digit 10>+ <suffix> | <digit 10>+ . <digit 10>* <suffix>: w digits from p on, a dot, and s from q on
unfoldable pub dotted : Bool → ℕ → ℕ → ℕ → List ℕ → Option Real
dotted neg p w q s =
    if eqb (w + digits 10 s) 0 then None
    else point_of neg (span_at p w) (span_at q (digits 10 s)) (suffix (q + digits 10 s) (drop (digits 10 s) s))

-- <decimal 10> → <uinteger 10> <suffix>: w digits from p on. "A dot or an exponent must be there, else it is an integer" (01, Decimal)
unfoldable pub undotted : Bool → ℕ → ℕ → Suffix → Option Real
undotted neg p w Empty = None
undotted neg p w Bad = None
undotted neg p w (Marked e) =
    if eqb w 0 then None else point_of neg (span_at p w) (record { start = p + w; end = p + w }) (Marked e)

-- <decimal 10>. Neither the dot nor the marker is a digit, so the digits before either are all that s starts with
unfoldable pub decimal : Bool → ℕ → List ℕ → Option Real
decimal neg p s =
    if starts (code ".") (drop (digits 10 s) s)
    then dotted neg p (digits 10 s) (p + digits 10 s + 1) (drop (digits 10 s + 1) s)
    else undotted neg p (digits 10 s) (suffix (p + digits 10 s) (drop (digits 10 s) s))

-- the decimal that a real is
unfoldable pub point_in : Option Real → Option Point
point_in (Some (Integer n)) = None
point_in (Some (Rational n d)) = None
point_in (Some (Decimal d)) = Some d
point_in (Some PosInf) = None
point_in (Some NegInf) = None
point_in (Some PosNan) = None
point_in (Some NegNan) = None
point_in (Some ImpliedZero) = None
point_in (Some (ImpliedOne neg)) = None
point_in None = None

-- a text that is <sign> <decimal 10> and nothing else
unfoldable pub one_decimal : List ℕ → Option Point
one_decimal s = point_in (decimal (negative s) (sign s) (drop (sign s) s))

-- <infnan> → +inf.0 | -inf.0 | +nan.0 | -nan.0, "in every radix" (01, Decimal).
-- Departure: in lower case only, as in the Rust. `+INF.0` is no number
unfoldable pub infnan : List ℕ → Option Real
infnan s =
    if same s (codes "+inf.0") then Some PosInf
    else if same s (codes "-inf.0") then Some NegInf
    else if same s (codes "+nan.0") then Some PosNan
    else if same s (codes "-nan.0") then Some NegNan
    else None

-- an integer, and a rational of two, where they are there
unfoldable pub integral_of : Option Int → Option Real
integral_of (Some n) = Some (Integer n)
integral_of None = None

unfoldable pub rational_of : Option Int → Option Int → Option Real
rational_of (Some n) (Some d) = Some (Rational n d)
rational_of (Some n) None = None
rational_of None d = None

-- the <uinteger R> after a slash. Departure: it may have a sign, as in the Rust. `1@1/-2` is a number
unfoldable pub denominator : ℕ → ℕ → List ℕ → Option Int
denominator R p s = integer R p s

-- <uinteger R> | <uinteger R> / <uinteger R>, cut at the first slash
unfoldable pub exact : ℕ → Bool → ℕ → List ℕ → Option Real
exact R neg p s =
    if ltb (before (code "/") s) (length s)
    then rational_of (whole_of R neg p (take (before (code "/") s) s))
    (denominator R (p + before (code "/") s + 1) (drop (before (code "/") s + 1) s))
    else integral_of (whole_of R neg p s)

-- the first that is a real
unfoldable pub or_else : Option Real → Option Real → Option Real
or_else (Some r) o = Some r
or_else None o = o

-- <ureal R> → <uinteger R> | <uinteger R> / <uinteger R> | <decimal R>; there is a <decimal R> for 10 only
unfoldable pub ureal : ℕ → Bool → ℕ → List ℕ → Option Real
ureal R neg p s = or_else (if eqb R 10 then decimal neg p s else None) (exact R neg p s)

-- <real R> → <sign> <ureal R> | <infnan>
unfoldable pub real : ℕ → ℕ → List ℕ → Option Real
real R p s = or_else (infnan s) (ureal R (negative s) (p + sign s) (drop (sign s) s))
