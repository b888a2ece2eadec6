-- A number: R7RS 7.1.1's <number>, <prefix R> and <complex R>, a function for a production, under its name.
-- Where document 01 or the Rust departs from the grammar, a comment begins "Departure" and gives the smallest text that shows it.
-- s is a part of the text as a list of bytes, p the place of the text where that part starts, R the radix.
use Rattle.std.specs.Prelude.{ℕ, suc, ◌+◌, ◌-◌, Bool, true, false, ◌||◌, List, [], ◌∷◌, length, get_or, take, drop, ltb, eqb, pos, negsuc, if◌then◌else◌, None, Option, Some, Result, Ok, Err}
use Rattle.laws.specs.Quoted.{code, codes}
use Rattle.laws.specs.Texts.{before, starts, same}
use Rattle.digits.specs.declared.Int.{Int}
use Rattle.digits.specs.declared.Int.TheVariants.{Small, Big}
use Rattle.digits.specs.Digits.{sign}
use Rattle.numbers.specs.declared.Real.{Real}
use Rattle.numbers.specs.declared.Real.TheVariants.{Integer, Rational, Decimal, PosInf, NegInf, PosNan, NegNan, ImpliedZero, ImpliedOne}
use Rattle.numbers.specs.declared.Parts.{Parts}
use Rattle.numbers.specs.declared.Parts.TheVariants.{Just, Complex, Polar}
use Rattle.numbers.specs.declared.ParseError.{ParseError}
use Rattle.numbers.specs.declared.ParseError.TheVariants.{NoNumber, ZeroDenominator}
use Rattle.numbers.specs.Reals.{exponent_marker, real}

-- one real, and two, where they are there
unfoldable pub just_of : Option Real → Option Parts
just_of (Some r) = Some (Just r)
just_of None = None

unfoldable pub complex_of : Option Real → Option Real → Option Parts
complex_of (Some a) (Some b) = Some (Complex a b)
complex_of (Some a) None = None
complex_of None b = None

unfoldable pub polar_of : Option Real → Option Real → Option Parts
polar_of (Some a) (Some b) = Some (Polar a b)
polar_of (Some a) None = None
polar_of None b = None

-- whether the last character is `i`. Departure: in lower case only, as in the Rust. `+I` is no number
unfoldable pub ends_i : List ℕ → Bool
ends_i s = starts (code "i") (drop (length s - 1) s)

-- all but the last character
abbrev pub init : List ℕ → List ℕ
init s = take (length s - 1) s

-- an imaginary part, its `i` taken off: + and - alone imply 1 and -1
unfoldable pub imaginary : ℕ → ℕ → List ℕ → Option Real
imaginary R p s =
    if same s (codes "+") then Some (ImpliedOne false)
    else if same s (codes "-") then Some (ImpliedOne true)
    else real R p s

-- <complex R> → <real R> | + <ureal R> i | - <ureal R> i | <infnan> i | + i | - i: one part; a real part that is not there implies 0
unfoldable pub alone_of : ℕ → ℕ → List ℕ → Option Parts
alone_of R p s =
    if ends_i s
    then (if eqb (sign s) 0 then None else complex_of (Some ImpliedZero) (imaginary R p (init s)))
    else just_of (real R p s)

-- <complex R> → <real R> + <ureal R> i | <real R> - <ureal R> i | <real R> + i | <real R> - i | <real R> <infnan> i: two parts,
-- the second from its sign on, k characters after the first's start
unfoldable pub pair_of : ℕ → ℕ → ℕ → List ℕ → Option Parts
pair_of R p k s =
    if ends_i (drop k s)
    then complex_of (real R p (take k s)) (imaginary R (p + k) (init (drop k s)))
    else None

-- how many characters of s stand before the first sign; the character after an `e` or `E` is passed over, and the first one too where skip.
-- Departure: the Rust passes over it in every radix, also in 16, where `e` is a digit. `#xe+1i` (E15) is no number
unfoldable pub to_sign : Bool → List ℕ → ℕ
to_sign skip [] = 0
to_sign true (c ∷ s) = suc (to_sign false s)
to_sign false (c ∷ s) = if eqb c (code "+") then 0 else if eqb c (code "-") then 0 else suc (to_sign (exponent_marker c) s)

unfoldable pub starts_e : List ℕ → Bool
starts_e [] = false
starts_e (c ∷ s) = exponent_marker c

-- where the first sign past the first character stands
abbrev pub cut : List ℕ → ℕ
cut s = 1 + to_sign (starts_e s) (drop 1 s)

-- <complex R> without @. Departure: as in the Rust, s is cut at the one sign past its first character before a part is read, and with a
-- second one it is no number. So a denominator has no sign here: `1/-2` (E6) is no number
unfoldable pub rectangular : ℕ → ℕ → List ℕ → Option Parts
rectangular R p s =
    if ltb (cut s) (length s)
    then (if ltb (cut s + 1 + to_sign false (drop (cut s + 1) s)) (length s) then None else pair_of R p (cut s) s)
    else alone_of R p s

-- <complex R> → <real R> @ <real R>, cut at the first @, or one of those above
unfoldable pub complex : ℕ → ℕ → List ℕ → Option Parts
complex R p s =
    if ltb (before (code "@") s) (length s)
    then polar_of (real R p (take (before (code "@") s) s)) (real R (p + before (code "@") s + 1) (drop (before (code "@") s + 1) s))
    else rectangular R p s

-- a denominator that is zero: "zero denominator means all digits zero" (01). Its value is 0 then, so it is Small however many digits it has
unfoldable pub zero_int : Int → Bool
zero_int (Small (pos n)) = eqb n 0
zero_int (Small (negsuc n)) = false
zero_int (Big n d) = false

unfoldable pub zero_real : Real → Bool
zero_real (Integer n) = false
zero_real (Rational n d) = zero_int d
zero_real (Decimal d) = false
zero_real PosInf = false
zero_real NegInf = false
zero_real PosNan = false
zero_real NegNan = false
zero_real ImpliedZero = false
zero_real (ImpliedOne n) = false

unfoldable pub zero_parts : Parts → Bool
zero_parts (Just a) = zero_real a
zero_parts (Complex a b) = if zero_real a then true else zero_real b
zero_parts (Polar a b) = if zero_real a then true else zero_real b

-- a text's parts, or why it has none
abbrev pub Parsed : Type 0
Parsed = Result Parts ParseError

-- "its parts, `no number`, or error 8" (01, the number call): a text that is no number goes before a zero denominator, as `1/0@x` does
unfoldable pub judged : Option Parts → Parsed
judged (Some p) = if zero_parts p then Err ZeroDenominator else Ok p
judged None = Err NoNumber

-- <radix 16> → #x, <radix 10> → #d, <radix 8> → #o, <radix 2> → #b: the radix of the letter, in either case; 0 for any other
unfoldable pub radix_mark : ℕ → ℕ
radix_mark c =
    if eqb c (code "x") || eqb c (code "X") then 16
    else if eqb c (code "d") || eqb c (code "D") then 10
    else if eqb c (code "o") || eqb c (code "O") then 8
    else if eqb c (code "b") || eqb c (code "B") then 2
    else 0

-- <prefix R>, 0 where there is none. Departure: there is no <exactness>. `#e1` is no number
unfoldable pub prefix : List ℕ → ℕ
prefix s = if eqb (get_or s 0 0) (code "#") then radix_mark (get_or s 1 0) else 0

-- <number> → <num R>, <num R> → <prefix R> <complex R>; radix 10 without a prefix
unfoldable pub parse_number : List ℕ → Parsed
parse_number s =
    if eqb (prefix s) 0
    then judged (complex 10 0 s)
    else judged (complex (prefix s) 2 (drop 2 s))

-- whether a text that is read so is a number, or error 8
abbrev pub numeric : Parsed → Bool
numeric (Ok p) = true
numeric (Err NoNumber) = false
numeric (Err ZeroDenominator) = true
