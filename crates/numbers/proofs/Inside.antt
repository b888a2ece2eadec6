-- The digit places of a number lie in its text: each production gives places from the start of its part to the part's end.
use Rattle.numbers.specs.declared.Real.{Real}
use Rattle.digits.specs.declared.Int.{Int}
use Rattle.numbers.specs.declared.Point.{Point}
use Rattle.numbers.specs.declared.Real.TheVariants.{Integer, Rational, Decimal, PosInf, NegInf, PosNan, NegNan, ImpliedZero, ImpliedOne}
use Rattle.numbers.specs.declared.Parts.{Parts}
use Rattle.numbers.specs.declared.ParseError.TheVariants.{ZeroDenominator}
use Rattle.numbers.specs.declared.Suffix.{Suffix}
use Rattle.numbers.specs.declared.Suffix.TheVariants.{Empty, Marked, Bad}
use Rattle.numbers.specs.Grammar.{just_of, complex_of, polar_of, ends_i, init, imaginary, alone_of, pair_of, to_sign, cut, rectangular, complex, zero_parts, judged, prefix, parse_number}
use Rattle.numbers.specs.Inside.{InSpan, InInt, InPoint, InReal, InParts}
use Rattle.numbers.specs.Reals.{exponent_marker, exponent, suffix, point_of, dotted, undotted, decimal, point_in, one_decimal, infnan}
use Rattle.numbers.specs.Reals.{integral_of, rational_of, denominator, exact, or_else, ureal, real}
use Rattle.numbers.proofs.Judged.{prefix_short}
use Rattle.std.specs.Prelude.{if◌then◌else◌, None, Option, Some, Ok, Err}
use Rattle.laws.specs.Quoted.{codes, code}
use Rattle.laws.specs.Texts.{before, starts, same}
use Rattle.laws.proofs.Choice.{by_bool, if_all, if_is, impossible}
use Rattle.laws.proofs.Compared.{starts_in}
use Rattle.laws.proofs.Runs.{span_le}
use Rattle.digits.specs.declared.Span.{Span}
use Rattle.digits.specs.Digits.{digit_of, digits, sign, negative, uinteger, value, top, span_at, whole_of, integer}
use Prim.Native.Nat.{ℕ, ◌+◌, ◌-◌, ◌≤◌}
use mathlib.Core.Path.{◌≡◌, sym}
use mathlib.Core.Bool.{Bool, false}
use mathlib.Core.List.{List, [], ◌∷◌}
use lib.ListN.{length, take, drop, length-drop}
use lib.Seq.{length-take-le}
use lib.Dec.{lit≤, eqb, ltb}
use native.Mathlib.Omega.{arith}
use native.Mathlib.Nat.{le_refl}
use borrow.Author.Tests.{ltb-true, ltb-false, eqb-false}

module _ (n : ℕ) where
  abbrev SomeInt : Option Int → Type 0
  SomeInt (Some a) = InInt n a
  SomeInt None = Unit {0}

  abbrev SomeSuffix : Suffix → Type 0
  SomeSuffix Empty = Unit {0}
  SomeSuffix (Marked e) = InSpan n e.digits
  SomeSuffix Bad = Unit {0}

  abbrev SomeReal : Option Real → Type 0
  SomeReal (Some a) = InReal n a
  SomeReal None = Unit {0}

  abbrev SomePoint : Option Point → Type 0
  SomePoint (Some d) = InPoint n d
  SomePoint None = Unit {0}

  abbrev InMaybe : Option Parts → Type 0
  InMaybe (Some p) = InParts n p
  InMaybe None = Unit {0}

sign_le : (s : List ℕ) → sign s ≤ length s
unfolding sign
sign_le [] = lit≤ tt
sign_le (c ∷ s) =
    if_all (λ k. k ≤ length (c ∷ s)) (eqb c (code "+")) (omega arith)
    (if_all (λ k. k ≤ length (c ∷ s)) (eqb c (code "-")) (omega arith) (omega arith))

-- the rest of a part after k of its bytes ends where the part ends
rest_in : (p k : ℕ) (s : List ℕ) {n : ℕ} → k ≤ length s → p + length s ≤ n → p + k + length (drop k s) ≤ n
rest_in p k s l h = rw (length-drop k s) (omega arith)

first_in : (p k : ℕ) (s : List ℕ) {n : ℕ} → k ≤ length s → p + length s ≤ n → p + length (take k s) ≤ n
first_in p k s l h = rw (length-take-le k s l) (omega arith)

module _ (n : ℕ) where
  whole_in : (R : ℕ) (neg : Bool) (p : ℕ) (s : List ℕ) → p + length s ≤ n → SomeInt n (whole_of R neg p s)
  unfolding whole_of
  whole_in R neg p s h =
      if_all (SomeInt n) (uinteger R s)
      (if_all (InInt n) (ltb (value R 0 s) (top neg)) tt (omega arith, h))
      tt

  integer_in : (R p : ℕ) (s : List ℕ) → p + length s ≤ n → SomeInt n (integer R p s)
  unfolding integer
  integer_in R p s h = whole_in R (negative s) (p + sign s) (drop (sign s) s) (rest_in p (sign s) s (sign_le s) h)

  -- a decimal
  exponent_in : (p : ℕ) (s : List ℕ) → p + length s ≤ n → SomeSuffix n (exponent p s)
  unfolding exponent
  exponent_in p s h = if_all (SomeSuffix n) (uinteger 10 (drop (sign s) s)) (omega arith, rest_in p (sign s) s (sign_le s) h) tt

  suffix_in : (p : ℕ) (s : List ℕ) → p + length s ≤ n → SomeSuffix n (suffix p s)
  unfolding suffix
  suffix_in p [] h = tt
  suffix_in p (c ∷ s) h = if_all (SomeSuffix n) (exponent_marker c) (exponent_in (p + 1) s (omega arith)) tt

  point_in_lem : (neg : Bool) (w f : Span) (x : Suffix) → InSpan n w → InSpan n f → SomeSuffix n x → SomeReal n (point_of neg w f x)
  unfolding point_of
  point_in_lem neg w f Empty a b e = (a, b, (omega arith, b.1))
  point_in_lem neg w f (Marked d) a b e = (a, b, e)
  point_in_lem neg w f Bad a b e = tt

  dotted_in : (neg : Bool) (p w q : ℕ) (s : List ℕ) → p + w ≤ n → q + length s ≤ n → SomeReal n (dotted neg p w q s)
  unfolding dotted
  dotted_in neg p w q s h k =
      let d = span_le (λ c. ltb (digit_of c) 10) s in
      if_all (SomeReal n) (eqb (w + digits 10 s) 0) tt
      (point_in_lem neg (span_at p w) (span_at q (digits 10 s)) (suffix (q + digits 10 s) (drop (digits 10 s) s))
      (omega arith, h) (omega arith, omega arith) (suffix_in (q + digits 10 s) (drop (digits 10 s) s) (rest_in q (digits 10 s) s d k)))

  undotted_in : (neg : Bool) (p w : ℕ) (x : Suffix) → p + w ≤ n → SomeSuffix n x → SomeReal n (undotted neg p w x)
  unfolding undotted
  undotted_in neg p w Empty h e = tt
  undotted_in neg p w Bad h e = tt
  undotted_in neg p w (Marked d) h e =
      if_all (SomeReal n) (eqb w 0) tt (point_in_lem neg (span_at p w) (record {
        start =
            p + w;
        end = p + w;
      }) (Marked d) (omega arith, h) (omega arith, h) e)

  decimal_in : (neg : Bool) (p : ℕ) (s : List ℕ) → p + length s ≤ n → SomeReal n (decimal neg p s)
  unfolding decimal
  decimal_in neg p s h =
      let d = span_le (λ c. ltb (digit_of c) 10) s in
      if_is (SomeReal n) (starts (code ".") (drop (digits 10 s) s))
      (λ e. let l = starts_in (code ".") s (digits 10 s) (sym e) in
      dotted_in neg p (digits 10 s) (p + digits 10 s + 1) (drop (digits 10 s + 1) s) (omega arith) (rw (length-drop (digits 10 s + 1) s) (omega arith)))
      (λ _. undotted_in neg p (digits 10 s) (suffix (p + digits 10 s) (drop (digits 10 s) s)) (omega arith)
      (suffix_in (p + digits 10 s) (drop (digits 10 s) s) (rest_in p (digits 10 s) s d h)))

  told_in : (r : Option Real) → SomeReal n r → SomePoint n (point_in r)
  unfolding point_in
  told_in (Some (Integer a)) h = tt
  told_in (Some (Rational a b)) h = tt
  told_in (Some (Decimal d)) h = h
  told_in (Some PosInf) h = tt
  told_in (Some NegInf) h = tt
  told_in (Some PosNan) h = tt
  told_in (Some NegNan) h = tt
  told_in (Some ImpliedZero) h = tt
  told_in (Some (ImpliedOne neg)) h = tt
  told_in None h = tt

  -- a real
  infnan_in : (s : List ℕ) → SomeReal n (infnan s)
  unfolding infnan
  infnan_in s =
      if_all (SomeReal n) (same s (codes "+inf.0")) tt (if_all (SomeReal n) (same s (codes "-inf.0")) tt
      (if_all (SomeReal n) (same s (codes "+nan.0")) tt (if_all (SomeReal n) (same s (codes "-nan.0")) tt tt)))

  integral_in : (a : Option Int) → SomeInt n a → SomeReal n (integral_of a)
  unfolding integral_of
  integral_in (Some a) h = h
  integral_in None h = tt

  rational_in : (a b : Option Int) → SomeInt n a → SomeInt n b → SomeReal n (rational_of a b)
  unfolding rational_of
  rational_in (Some a) (Some b) h k = (h, k)
  rational_in (Some a) None h k = tt
  rational_in None b h k = tt

  exact_in : (R : ℕ) (neg : Bool) (p : ℕ) (s : List ℕ) → p + length s ≤ n → SomeReal n (exact R neg p s)
  unfolding exact denominator
  exact_in R neg p s h =
      let k = before (code "/") s in
      if_is (SomeReal n) (ltb k (length s))
      (λ e. let l = ltb-true k (length s) e in
      rational_in (whole_of R neg p (take k s)) (integer R (p + k + 1) (drop (k + 1) s))
      (whole_in R neg p (take k s) (first_in p k s (omega arith) h))
      (integer_in R (p + k + 1) (drop (k + 1) s) (rw (length-drop (k + 1) s) (omega arith))))
      (λ _. integral_in (whole_of R neg p s) (whole_in R neg p s h))

  else_in : (a b : Option Real) → SomeReal n a → SomeReal n b → SomeReal n (or_else a b)
  unfolding or_else
  else_in (Some a) b h k = h
  else_in None b h k = k

  real_in : (R p : ℕ) (s : List ℕ) → p + length s ≤ n → SomeReal n (real R p s)
  unfolding real ureal
  real_in R p s h =
      let l = rest_in p (sign s) s (sign_le s) h in
      else_in (infnan s) (ureal R (negative s) (p + sign s) (drop (sign s) s)) (infnan_in s)
      (else_in (if eqb R 10 then decimal (negative s) (p + sign s) (drop (sign s) s) else None) (exact R (negative s) (p + sign s) (drop (sign s) s))
      (if_all (SomeReal n) (eqb R 10) (decimal_in (negative s) (p + sign s) (drop (sign s) s) l) tt)
      (exact_in R (negative s) (p + sign s) (drop (sign s) s) l))

  -- a number's parts
  just_in : (a : Option Real) → SomeReal n a → InMaybe n (just_of a)
  unfolding just_of
  just_in (Some a) h = h
  just_in None h = tt

  complex_of_in : (a b : Option Real) → SomeReal n a → SomeReal n b → InMaybe n (complex_of a b)
  unfolding complex_of
  complex_of_in (Some a) (Some b) h k = (h, k)
  complex_of_in (Some a) None h k = tt
  complex_of_in None b h k = tt

  polar_of_in : (a b : Option Real) → SomeReal n a → SomeReal n b → InMaybe n (polar_of a b)
  unfolding polar_of
  polar_of_in (Some a) (Some b) h k = (h, k)
  polar_of_in (Some a) None h k = tt
  polar_of_in None b h k = tt

  imaginary_in : (R p : ℕ) (s : List ℕ) → p + length s ≤ n → SomeReal n (imaginary R p s)
  unfolding imaginary
  imaginary_in R p s h =
      if_all (SomeReal n) (same s (codes "+")) tt (if_all (SomeReal n) (same s (codes "-")) tt (real_in R p s h))

  alone_in : (R p : ℕ) (s : List ℕ) → p + length s ≤ n → InMaybe n (alone_of R p s)
  unfolding alone_of
  alone_in R p s h =
      if_all (InMaybe n) (ends_i s)
      (if_all (InMaybe n) (eqb (sign s) 0) tt
      (complex_of_in (Some ImpliedZero) (imaginary R p (init s)) tt (imaginary_in R p (init s) (first_in p (length s - 1) s (omega arith) h))))
      (just_in (real R p s) (real_in R p s h))

  pair_in : (R p k : ℕ) (s : List ℕ) → k ≤ length s → p + length s ≤ n → InMaybe n (pair_of R p k s)
  unfolding pair_of
  pair_in R p k s l h =
      if_all (InMaybe n) (ends_i (drop k s))
      (complex_of_in (real R p (take k s)) (imaginary R (p + k) (init (drop k s)))
      (real_in R p (take k s) (first_in p k s l h))
      (imaginary_in R (p + k) (init (drop k s)) (first_in (p + k) (length (drop k s) - 1) (drop k s) (omega arith) (rest_in p k s l h))))
      tt

  rectangular_in : (R p : ℕ) (s : List ℕ) → p + length s ≤ n → InMaybe n (rectangular R p s)
  unfolding rectangular
  rectangular_in R p s h =
      if_is (InMaybe n) (ltb (cut s) (length s))
      (λ e. let l = ltb-true (cut s) (length s) e in
      if_all (InMaybe n) (ltb (cut s + 1 + to_sign false (drop (cut s + 1) s)) (length s)) tt (pair_in R p (cut s) s (omega arith) h))
      (λ _. alone_in R p s h)

  complex_in : (R p : ℕ) (s : List ℕ) → p + length s ≤ n → InMaybe n (complex R p s)
  unfolding complex
  complex_in R p s h =
      let k = before (code "@") s in
      if_is (InMaybe n) (ltb k (length s))
      (λ e. let l = ltb-true k (length s) e in
      polar_of_in (real R p (take k s)) (real R (p + k + 1) (drop (k + 1) s))
      (real_in R p (take k s) (first_in p k s (omega arith) h))
      (real_in R (p + k + 1) (drop (k + 1) s) (rw (length-drop (k + 1) s) (omega arith))))
      (λ _. rectangular_in R p s h)

  judged_in : (m : Option Parts) (p : Parts) → InMaybe n m → judged m ≡ Ok p → InParts n p
  unfolding judged
  judged_in None p h e = impossible cc
  judged_in (Some q) p h e =
      by_bool (zero_parts q)
      (λ z. let f : judged (Some q) ≡ Err ZeroDenominator = simp z in impossible cc)
      (λ z. let f : judged (Some q) ≡ Ok q = simp z in (let g : q ≡ p = cc in rw g at h))

-- the places of a decimal lie in its part
pub decimal_inside : (neg : Bool) (p : ℕ) (s : List ℕ) (d : Point) → decimal neg p s ≡ Some (Decimal d) → InPoint (p + length s) d
decimal_inside neg p s d e = rw e at (decimal_in (p + length s) neg p s (le_refl (p + length s)))

-- the places of a text that is one decimal lie in the text
pub one_decimal_inside : (s : List ℕ) (d : Point) → one_decimal s ≡ Some d → InPoint (length s) d
unfolding one_decimal
one_decimal_inside s d e =
    rw e at (told_in (length s) (decimal (negative s) (sign s) (drop (sign s) s))
    (decimal_in (length s) (negative s) (sign s) (drop (sign s) s) (let l = sign_le s in rw (length-drop (sign s) s) (omega arith))))

-- a prefix takes two bytes
prefix_in : (s : List ℕ) → (prefix s ≡ 0 → ⊥) → 2 + length (drop 2 s) ≤ length s
prefix_in s h =
    by_bool (ltb (length s) 2)
    (λ e. absurd (h (sym (prefix_short s (ltb-true _ _ e)))))
    (λ e. let l = ltb-false (length s) 2 e in rw (length-drop 2 s) (omega arith))

-- the places in a text's number lie in the text
pub places_inside : (s : List ℕ) (p : Parts) → parse_number s ≡ Ok p → InParts (length s) p
unfolding parse_number
places_inside s p e =
    by_bool (eqb (prefix s) 0)
    (λ z. judged_in (length s) (complex 10 0 s) p (complex_in (length s) 10 0 s (omega arith)) (simp z at e))
    (λ z. judged_in (length s) (complex (prefix s) 2 (drop 2 s)) p
    (complex_in (length s) (prefix s) 2 (drop 2 s) (prefix_in s (eqb-false _ _ z))) (simp z at e))
