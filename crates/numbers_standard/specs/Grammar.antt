-- A number by the standard: R7RS 7.1.1's <number> without <exactness>, a function for a production, under its name. Crate numbers_difference
-- has the grammar itself, and the proof that this is it.
-- s is a part of the text as a list of bytes, p the place of the text where that part starts, R the radix.
use Rattle.numbers.specs.declared.Parts.{Parts}
use Rattle.numbers.specs.declared.Real.{Real}
use Rattle.std.specs.Prelude.{ℕ, ◌+◌, ◌-◌, Bool, true, false, not, List, map, length, take, drop, ltb, eqb, if◌then◌else◌, Option, Some, None}
use Rattle.laws.specs.Quoted.{code, codes}
use Rattle.laws.specs.Texts.{span, before, starts, same}
use Rattle.digits.specs.Digits.{sign}
use Rattle.numbers.specs.declared.Real.TheVariants.{ImpliedZero, ImpliedOne}
use Rattle.numbers.specs.Grammar.{just_of, complex_of, polar_of, init, cut, judged, prefix, Parsed}
use Rattle.laws.specs.Letters.{lower, is_sign}
use Rattle.numbers_standard.specs.Reals.{real}

-- whether the last character is `i`, in either case: `+I` is a number
unfoldable pub ends_i : List ℕ → Bool
ends_i s = starts (code "i") (map lower (drop (length s - 1) s))

-- an imaginary part, its `i` taken off: + and - alone imply 1 and -1
unfoldable pub imaginary : ℕ → ℕ → List ℕ → Option Real
imaginary R p s =
    if same s (codes "+") then Some (ImpliedOne false)
    else if same s (codes "-") then Some (ImpliedOne true)
    else real R p s

-- <complex R> → <real R> | + <ureal R> i | - <ureal R> i | <infnan> i | + i | - i: one part; a real part that is not there implies 0
unfoldable pub alone_of : ℕ → ℕ → List ℕ → Option Parts
alone_of R p s =
    if ends_i s
    then (if eqb (sign s) 0 then None else complex_of (Some ImpliedZero) (imaginary R p (init s)))
    else just_of (real R p s)

-- <complex R> → <real R> + <ureal R> i | <real R> - <ureal R> i | <real R> + i | <real R> - i | <real R> <infnan> i: two parts,
-- the second from its sign on, k characters after the first's start
unfoldable pub pair_of : ℕ → ℕ → ℕ → List ℕ → Option Parts
pair_of R p k s =
    if ends_i (drop k s)
    then complex_of (real R p (take k s)) (imaginary R (p + k) (init (drop k s)))
    else None

-- how many characters stand before the sign that joins two parts: the first sign past the first character. One right after an exponent
-- marker does not join; radix 16 has no marker, there `e` is a digit, and `#xe+1i` is a number
unfoldable pub joint : ℕ → List ℕ → ℕ
joint R s = if eqb R 16 then 1 + span (λ c. not (is_sign c)) (drop 1 s) else cut s

-- <complex R> without @
unfoldable pub rectangular : ℕ → ℕ → List ℕ → Option Parts
rectangular R p s = if ltb (joint R s) (length s) then pair_of R p (joint R s) s else alone_of R p s

-- <complex R> → <real R> @ <real R>, cut at the first @, or one of those above
unfoldable pub complex : ℕ → ℕ → List ℕ → Option Parts
complex R p s =
    if ltb (before (code "@") s) (length s)
    then polar_of (real R p (take (before (code "@") s) s)) (real R (p + before (code "@") s + 1) (drop (before (code "@") s + 1) s))
    else rectangular R p s

-- <number> → <num R>, <num R> → <prefix R> <complex R>, <prefix R> → <radix R>; radix 10 without a prefix
unfoldable pub number_parts : List ℕ → Option Parts
number_parts s = if eqb (prefix s) 0 then complex 10 0 s else complex (prefix s) 2 (drop 2 s)

-- "its parts, `no number`, or error 8" (01, the number call)
unfoldable pub parse_standard : List ℕ → Parsed
parse_standard s = judged (number_parts s)
