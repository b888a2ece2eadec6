-- Brief numbers: what the code finds of one of the plainest reals in one walk, and when it tells a text's parts by that alone. Means of proof:
-- Grammar says what a number's parts are.
use Rattle.numbers.specs.declared.Parts.{Parts}
use Rattle.std.specs.Prelude.{ℕ, ◌+◌, ◌-◌, ◌^◌, ◌≤◌, ◌<◌, ◌≡◌, Bool, true, false, List, ◌⊎◌, length, get_or, take, drop, ltb, eqb, if◌then◌else◌, None, Option, Some}
use Rattle.laws.specs.Quoted.{code}
use Rattle.laws.specs.Texts.{starts}
use Rattle.digits.specs.declared.Int.TheVariants.{Small}
use Rattle.digits.specs.Digits.{digits, sign, negative, uinteger, run_value, short, signed, whole_of}
use Rattle.numbers.specs.declared.Outline.{Outline}
use Rattle.numbers.specs.declared.Real.{Real}
use Rattle.numbers.specs.declared.Real.TheVariants.{Integer, Decimal}
use Rattle.numbers.specs.declared.Parts.TheVariants.{Just, Complex, Polar}
use Rattle.numbers.specs.Plain.{plain}
use Rattle.numbers.specs.Reals.{integral_of, real}
use Rattle.numbers.specs.Grammar.{prefix}

-- where a dot and the digits after it end, from the place p on; p where no dot is
unfoldable pub fraction_end : ℕ → List ℕ → ℕ
fraction_end p s = if starts (code ".") s then p + 1 + digits 10 (drop 1 s) else p

-- what stands in the text t from the place p on: a sign, digits, a dot and digits, each where it is there
abbrev pub Outlines : List ℕ → ℕ → Outline → Type 0
Outlines t p o =
    (o.negative ≡ negative (drop p t))
    × (o.start ≡ p + sign (drop p t))
    × (o.dot ≡ o.start + digits 10 (drop o.start t))
    × (o.end ≡ fraction_end o.dot (drop o.dot t))
    × (o.value ≡ run_value 0 (drop o.start t))

-- an integer has digits, a decimal has some after its dot
unfoldable pub sound : Outline → Bool
sound o = if eqb o.dot o.end then ltb o.start o.dot else ltb (o.dot + 1) o.end

-- the integer or decimal that it is
abbrev pub decimal_of : Outline → Real
decimal_of o =
    Decimal (record {
      negative = o.negative;
      whole = record { start = o.start; end = o.dot };
      fraction = record { start = o.dot + 1; end = o.end };
      exponent = record { negative = false; digits = record { start = o.end; end = o.end } };
    })

unfoldable pub outlined : Outline → Real
outlined o = if eqb o.dot o.end then Integer (Small (signed o.negative o.value)) else decimal_of o

-- the real that one of the plainest numbers is, from the place p on
unfoldable pub plain_from : ℕ → List ℕ → Option Real
plain_from p s = if plain s then real 10 p s else None

-- a text that begins with a real and goes on
abbrev pub Begins : List ℕ → Outline → Type 0
Begins t o =
    (length t ≤ short) × Outlines t 0 o × (o.value < 10 ^ short) × (o.dot ≤ o.end) × (true ≡ sound o) × (o.end < length t)

-- the real of t is the integer behind a prefix: its sign, and digits of the radix and nothing else
abbrev pub Prefixed : List ℕ → Option Real → Type 0
Prefixed t r =
    (0 < prefix t)
    × (uinteger (prefix t) (drop (2 + sign (drop 2 t)) t) ≡ true)
    × (r ≡ integral_of (whole_of (prefix t) (negative (drop 2 t)) (2 + sign (drop 2 t)) (drop (2 + sign (drop 2 t)) t)))

-- the parts of t, where they are told: one of the plainest reals or an integer behind a prefix, or two plain reals with @ at a place k or the second's sign there and `i` at the end
abbrev pub Briefly : List ℕ → Option Parts → Type 0
Briefly t (Some (Just a)) = (Some a ≡ plain_from 0 t) ⊎ Prefixed t (Some a)
Briefly t (Some (Polar a b)) =
    (k : ℕ) × (k < length t) × (get_or t k 0 ≡ code "@") × (Some a ≡ plain_from 0 (drop 0 (take k t))) × (Some b ≡ plain_from (k + 1) (drop (k + 1) t))
Briefly t (Some (Complex a b)) =
    (k : ℕ)
    × (k < length t)
    × ((get_or t k 0 ≡ code "+") ⊎ (get_or t k 0 ≡ code "-"))
    × (get_or t (length t - 1) 0 ≡ code "i")
    × (Some a ≡ plain_from 0 (drop 0 (take k t)))
    × (Some b ≡ plain_from k (drop k (take (length t - 1) t)))
Briefly t None = Unit {0}
