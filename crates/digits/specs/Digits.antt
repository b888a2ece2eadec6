-- Digits, signs and integers: R7RS 7.1.1's <digit R>, <sign> and <uinteger R>, and document 01's rule "Integer".
-- s is a part of a text as a list of bytes, p the place of the text where that part starts, R the radix.
use Rattle.digits.specs.declared.Int.{Int}
use Rattle.std.specs.Prelude.{ℕ, ◌+◌, ◌-◌, ◌*◌, ◌^◌, Bool, true, false, ◌&&◌, List, [], ◌∷◌, length, take, drop, ltb, leb, eqb, ℤ, pos, neg_ℤ, if◌then◌else◌, None, Option, Some}
use Rattle.laws.specs.Quoted.{code, within}
use Rattle.laws.specs.Texts.{span, starts}
use Rattle.digits.specs.declared.Span.{Span}
use Rattle.digits.specs.declared.Int.TheVariants.{Small, Big}

-- what stands for the digit of a character that is none: a digit of no radix
abbrev pub no_digit : ℕ
no_digit = 16

-- <digit R>: a digit's value, its letters in either case
unfoldable pub digit_of : ℕ → ℕ
digit_of c =
    if within (code "0") (code "9") c then c - code "0"
    else if within (code "A") (code "F") c then c - code "A" + 10
    else if within (code "a") (code "f") c then c - code "a" + 10
    else no_digit

-- <digit R>*: how many digits of the radix s starts with
abbrev pub digits : ℕ → List ℕ → ℕ
digits R s = span (λ c. ltb (digit_of c) R) s

-- <sign> → <empty> | + | -: how many characters it takes
unfoldable pub sign : List ℕ → ℕ
sign [] = 0
sign (c ∷ s) = if eqb c (code "+") then 1 else if eqb c (code "-") then 1 else 0

abbrev pub negative : List ℕ → Bool
negative s = starts (code "-") s

-- <uinteger R> → <digit R>+, and nothing else in s. `_` is no digit (01: "An `_` makes no number here")
unfoldable pub uinteger : ℕ → List ℕ → Bool
uinteger R s = if ltb 0 (length s) then eqb (digits R s) (length s) else false

-- the value of the digits s after digits of the value n: value 10 0 (codes "47") is 47
unfoldable pub value : ℕ → ℕ → List ℕ → ℕ
value R n [] = n
value R n (c ∷ s) = value R (n * R + digit_of c) s

-- the value of the decimal digits that s starts with, after digits of the value n: run_value 0 (codes "47.5") is 47
abbrev pub run_value : ℕ → List ℕ → ℕ
run_value n s = value 10 n (take (digits 10 s) s)

-- how many bytes a short text has at most: as many decimal digits have a value within signed 64 bits
abbrev pub short : ℕ
short = 18

-- and in whatever radix up to 16
abbrev pub short_in_any : ℕ
short_in_any = 15

-- a magnitude that may be that of a signed 64-bit number
unfoldable pub fit : ℕ → Option ℕ
fit n = if leb n (2 ^ 63) then Some n else None

unfoldable pub signed : Bool → ℕ → ℤ
signed false n = pos n
signed true n = neg_ℤ (pos n)

-- the first magnitude past signed 64 bits, without a minus sign and with one: -2^63 is within
abbrev pub top : Bool → ℕ
top false = 2 ^ 63
top true = 2 ^ 63 + 1

-- the n places from p on
abbrev pub span_at : ℕ → ℕ → Span
span_at p n = record { start = p; end = p + n }

-- <uinteger R> after its sign: "Small within signed 64 bits, else Big with its digit places" (01, Integer)
unfoldable pub whole_of : ℕ → Bool → ℕ → List ℕ → Option Int
whole_of R neg p s =
    if uinteger R s
    then Some (if ltb (value R 0 s) (top neg) then Small (signed neg (value R 0 s)) else Big neg (span_at p (length s)))
    else None

-- <sign> <uinteger R>: "an optional sign, then one or more digits of the radix" (01, Integer)
unfoldable pub integer : ℕ → ℕ → List ℕ → Option Int
integer R p s = whole_of R (negative s) (p + sign s) (drop (sign s) s)

-- whether all of s are zeros: "zero denominator means all digits zero" (01)
unfoldable pub zeros : List ℕ → Bool
zeros [] = true
zeros (c ∷ s) = eqb c (code "0") && zeros s
