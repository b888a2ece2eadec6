-- R7RS 7.1.1, numbers in radix 10 that have no prefix and one part. The whole of <number> is in Written.
--   <real R> → <sign> <ureal R> | <infnan>
--   <ureal R> → <uinteger R> | <uinteger R> / <uinteger R> | <decimal R>
--   <decimal 10> → <uinteger 10> <suffix> | . <digit 10>+ <suffix> | <digit 10>+ . <digit 10>* <suffix>
--   <uinteger R> → <digit R>+
--   <infnan> → +inf.0 | -inf.0 | +nan.0 | -nan.0
--   <suffix> → <empty> | <exponent marker> <sign> <digit 10>+
--   <exponent marker> → e
--   <sign> → <empty> | + | -
-- The case of the exponent marker is not significant.
use Rattle.std.specs.Prelude.{ℕ, ◌≡◌, Bool, true, false, List, [], ◌∷◌, ◌++◌, eqb}
use Rattle.laws.specs.Quoted.{codes, code, one_of}
use Rattle.digits.specs.Digits.{value}
use Rattle.items_r7rs.specs.Escape.{digits}
use Rattle.items_r7rs.specs.Repeated.{Many, Some}

abbrev pub Digit : ℕ → Type 0
Digit c = one_of digits c ≡ true

-- whether there is a minus sign
pub data Sign : List ℕ → Bool → Type 0 where
  no_sign : Sign [] false
  plus_sign : Sign (codes "+") false
  minus_sign : Sign (codes "-") true

pub data Suffix : List ℕ → Type 0 where
  no_suffix : Suffix []
  e_suffix : {c : ℕ} (s d : List ℕ) {b : Bool} → one_of (codes "eE") c ≡ true → Sign s b → Some Digit d → Suffix (c ∷ s ++ d)

pub data Decimal : List ℕ → Type 0 where
  scaled : (d s : List ℕ) → Some Digit d → Suffix s → Decimal (d ++ s)
  dot_first : (f s : List ℕ) → Some Digit f → Suffix s → Decimal (code "." ∷ f ++ s)
  dot_inside : (d f s : List ℕ) → Some Digit d → Many Digit f → Suffix s → Decimal (d ++ (code "." ∷ f ++ s))

pub data Ureal : List ℕ → Type 0 where
  is_integer : {d : List ℕ} → Some Digit d → Ureal d
  -- Departure: a denominator that is zero makes error 8. `1/0`
  is_ratio : (n d : List ℕ) → Some Digit n → Some Digit d → eqb (value 10 0 d) 0 ≡ false → Ureal (n ++ (code "/" ∷ d))
  is_decimal : {d : List ℕ} → Decimal d → Ureal d

pub data Infnan : List ℕ → Type 0 where
  plus_inf : Infnan (codes "+inf.0")
  minus_inf : Infnan (codes "-inf.0")
  plus_nan : Infnan (codes "+nan.0")
  minus_nan : Infnan (codes "-nan.0")

pub data RealText : List ℕ → Type 0 where
  a_real : (s u : List ℕ) {b : Bool} → Sign s b → Ureal u → RealText (s ++ u)
  an_infnan : {t : List ℕ} → Infnan t → RealText t
