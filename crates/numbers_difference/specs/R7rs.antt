-- The number grammar of R7RS 7.1.1 without <exactness>: a type for a production, a constructor for an alternative. Each says which text
-- the production derives and which parts it has; p is the place where the text starts, neg whether a minus sign stands before it.
use Rattle.std.specs.Prelude.{ℕ, ◌+◌, ◌≡◌, Bool, true, false, List, [], ◌∷◌, ◌++◌, map, length, ltb, if◌then◌else◌}
use Rattle.laws.specs.Quoted.{code, codes}
use Rattle.digits.specs.declared.Span.{Span}
use Rattle.digits.specs.declared.Int.{Int}
use Rattle.digits.specs.declared.Int.TheVariants.{Small, Big}
use Rattle.digits.specs.Digits.{value, signed, top, span_at}
use Rattle.numbers.specs.declared.Exponent.{Exponent}
use Rattle.numbers.specs.declared.Real.{Real}
use Rattle.numbers.specs.declared.Real.TheVariants.{Integer, Rational, Decimal, PosInf, NegInf, PosNan, NegNan, ImpliedZero, ImpliedOne}
use Rattle.numbers.specs.declared.Parts.{Parts}
use Rattle.numbers.specs.declared.Parts.TheVariants.{Just, Complex, Polar}
use Rattle.laws.specs.Letters.{lower}
use Rattle.numbers_difference.specs.Productions.{Letter, Digits, UInteger, Sign, Prefix}

-- the parts of digits after a sign: "Small within signed 64 bits, else Big with its digit places" (01, Integer)
unfoldable pub int_of : ℕ → Bool → ℕ → List ℕ → Int
int_of R neg p s = if ltb (value R 0 s) (top neg) then Small (signed neg (value R 0 s)) else Big neg (span_at p (length s))

-- <suffix> → <empty> | <exponent marker> <sign> <digit 10>+, <exponent marker> → e: whether the exponent is negative, and where its
-- digits stand
pub data SuffixAt (p : ℕ) : List ℕ → Exponent → Type 0 where
  empty : SuffixAt p [] (record { negative = false; digits = record { start = p; end = p } })
  exponent : {c : ℕ} {g d : List ℕ} {n : Bool} → Letter "e" c → Sign g n → UInteger 10 d
      → SuffixAt p (c ∷ (g ++ d)) (record { negative = n; digits = span_at (p + 1 + length g) (length d) })

-- a decimal's parts: its sign, the places of its whole digits and of its fraction's, its exponent
abbrev pub pointed : Bool → Span → Span → Exponent → Real
pointed neg w f e = Decimal (record { negative = neg; whole = w; fraction = f; exponent = e })

-- <decimal 10> → <uinteger 10> <suffix> | . <digit 10>+ <suffix> | <digit 10>+ . <digit 10>* <suffix>, after a sign.
-- <uinteger 10> with the empty suffix is <ureal 10>'s <uinteger 10>: "a dot or an exponent must be there, else it is an integer" (01)
pub data DecimalAt (neg : Bool) (p : ℕ) : List ℕ → Real → Type 0 where
  whole : {d : List ℕ} {c : ℕ} {x : List ℕ} {e : Exponent} → UInteger 10 d → SuffixAt (p + length d) (c ∷ x) e
      → DecimalAt neg p (d ++ c ∷ x) (pointed neg (span_at p (length d)) (record { start = p + length d; end = p + length d }) e)
  point : {f x : List ℕ} {e : Exponent} → UInteger 10 f → SuffixAt (p + 1 + length f) x e
      → DecimalAt neg p (code "." ∷ (f ++ x)) (pointed neg (record { start = p; end = p }) (span_at (p + 1) (length f)) e)
  both : {d f x : List ℕ} {e : Exponent} → UInteger 10 d → Digits 10 f → SuffixAt (p + length d + 1 + length f) x e
      → DecimalAt neg p (d ++ code "." ∷ (f ++ x)) (pointed neg (span_at p (length d)) (span_at (p + length d + 1) (length f)) e)

-- <ureal R> → <uinteger R> | <uinteger R> / <uinteger R> | <decimal R>, after a sign
pub data URealAt (R : ℕ) (neg : Bool) (p : ℕ) : List ℕ → Real → Type 0 where
  integer : {s : List ℕ} → UInteger R s → URealAt R neg p s (Integer (int_of R neg p s))
  rational : {a b : List ℕ} → UInteger R a → UInteger R b
      → URealAt R neg p (a ++ code "/" ∷ b) (Rational (int_of R neg p a) (int_of R false (p + length a + 1) b))
  decimal : {s : List ℕ} {r : Real} → R ≡ 10 → DecimalAt neg p s r → URealAt R neg p s r

-- <infnan> → +inf.0 | -inf.0 | +nan.0 | -nan.0, letters in either case
pub data Infnan : List ℕ → Real → Type 0 where
  inf : {s : List ℕ} → map lower s ≡ codes "+inf.0" → Infnan s PosInf
  minus_inf : {s : List ℕ} → map lower s ≡ codes "-inf.0" → Infnan s NegInf
  nan : {s : List ℕ} → map lower s ≡ codes "+nan.0" → Infnan s PosNan
  minus_nan : {s : List ℕ} → map lower s ≡ codes "-nan.0" → Infnan s NegNan

-- <real R> → <sign> <ureal R> | <infnan>
pub data RealAt (R p : ℕ) : List ℕ → Real → Type 0 where
  ureal : {g s : List ℕ} {n : Bool} {r : Real} → Sign g n → URealAt R n (p + length g) s r → RealAt R p (g ++ s) r
  infnan : {s : List ℕ} {r : Real} → Infnan s r → RealAt R p s r

-- what stands before the i of an imaginary part: + <ureal R>, - <ureal R>, <infnan>, + or -
pub data ImaginaryAt (R p : ℕ) : List ℕ → Real → Type 0 where
  positive : {s : List ℕ} {r : Real} → URealAt R false (p + 1) s r → ImaginaryAt R p (code "+" ∷ s) r
  negative : {s : List ℕ} {r : Real} → URealAt R true (p + 1) s r → ImaginaryAt R p (code "-" ∷ s) r
  infnan : {s : List ℕ} {r : Real} → Infnan s r → ImaginaryAt R p s r
  one : ImaginaryAt R p (codes "+") (ImpliedOne false)
  minus_one : ImaginaryAt R p (codes "-") (ImpliedOne true)

-- <complex R> → <real R> | <real R> @ <real R>
--   | <real R> + <ureal R> i | <real R> - <ureal R> i | <real R> + i | <real R> - i | <real R> <infnan> i
--   | + <ureal R> i | - <ureal R> i | <infnan> i | + i | - i
-- the ten with an i are two constructors over the five of ImaginaryAt
pub data ComplexAt (R p : ℕ) : List ℕ → Parts → Type 0 where
  real : {s : List ℕ} {r : Real} → RealAt R p s r → ComplexAt R p s (Just r)
  polar : {a b : List ℕ} {x y : Real} → RealAt R p a x → RealAt R (p + length a + 1) b y → ComplexAt R p (a ++ code "@" ∷ b) (Polar x y)
  rectangular : {a b : List ℕ} {c : ℕ} {x y : Real} → RealAt R p a x → ImaginaryAt R (p + length a) b y → Letter "i" c
      → ComplexAt R p (a ++ (b ++ c ∷ [])) (Complex x y)
  imaginary : {b : List ℕ} {c : ℕ} {y : Real} → ImaginaryAt R p b y → Letter "i" c → ComplexAt R p (b ++ c ∷ []) (Complex ImpliedZero y)

-- <number> → <num R>, <num R> → <prefix R> <complex R>
pub data Number : List ℕ → Parts → Type 0 where
  num : {R : ℕ} {g s : List ℕ} {a : Parts} → Prefix R g → ComplexAt R (length g) s a → Number (g ++ s) a
