-- A real from a place on: <infnan>, an integer, a rational, or a decimal.
use Rattle.numbers.specs.declared.Point.{Point}
use Rattle.numbers.specs.declared.Real.{Real}
use Rattle.std.proofs.Common.{None, Option, Some}
use Rattle.numbers.specs.declared.Real.TheVariants.{Integer, Rational, PosInf, NegInf, PosNan, NegNan}
use Rattle.numbers.specs.Reals.{decimal, point_in, one_decimal, infnan, integral_of, rational_of, denominator}
use Rattle.laws.specs.Quoted.{codes, code}
use Rattle.laws.specs.Texts.{span, starts, same}
use Rattle.laws.proofs.Choice.{by_bool}
use Rattle.laws.proofs.Places.{past, here}
use Rattle.digits.specs.declared.Int.{Int}
use Rattle.digits.specs.Digits.{digit_of, digits, sign, integer}
use Prim.Native.Nat.{ℕ, suc, ◌+◌, ◌≤◌, ◌<◌}
use mathlib.Core.Path.{◌≡◌, ap, ◌∙◌}
use mathlib.Core.Bool.{Bool, true, false}
use mathlib.Core.List.{List}
use lib.ListN.{length, get_or, drop}
use lib.Dec.{eqb, ltb, leb}
use native.Mathlib.Nat.{zero-add}
use native.Mathlib.Omega.{arith}
use borrow.Author.Tests.{ne_eqb, le-leb, lt-leb, ltb-true, ltb-false}

module _ (s : List ℕ) where
  pub infnan_1 : true ≡ same s (codes "+inf.0") → Some PosInf ≡ infnan s
  unfolding infnan
  infnan_1 h = simp (← h)

  module _ (a : false ≡ same s (codes "+inf.0")) where
    pub infnan_2 : true ≡ same s (codes "-inf.0") → Some NegInf ≡ infnan s
    unfolding infnan
    infnan_2 h = simp (← a, ← h)

    module _ (b : false ≡ same s (codes "-inf.0")) where
      pub infnan_3 : true ≡ same s (codes "+nan.0") → Some PosNan ≡ infnan s
      unfolding infnan
      infnan_3 h = simp (← a, ← b, ← h)

      module _ (d : false ≡ same s (codes "+nan.0")) where
        pub infnan_4 : true ≡ same s (codes "-nan.0") → Some NegNan ≡ infnan s
        unfolding infnan
        infnan_4 h = simp (← a, ← b, ← d, ← h)

        pub infnan_none : false ≡ same s (codes "-nan.0") → None ≡ infnan s
        unfolding infnan
        infnan_none h = simp (← a, ← b, ← d, ← h)

-- integers to reals
module _ (n : Option Int) where
  pub integral_is : (a : Int) → n ≡ Some a → Some (Integer a) ≡ integral_of n
  unfolding integral_of
  integral_is a e = rw e

  pub integral_no : n ≡ None → None ≡ integral_of n
  unfolding integral_of
  integral_no e = rw e

module _ (n d : Option Int) where
  pub rational_is : (a b : Int) → n ≡ Some a → d ≡ Some b → Some (Rational a b) ≡ rational_of n d
  unfolding rational_of
  rational_is a b e f = rw (e, f)

  pub rational_no : (a : Int) → n ≡ Some a → d ≡ None → None ≡ rational_of n d
  unfolding rational_of
  rational_no a e f = rw (e, f)

  pub rational_not : n ≡ None → None ≡ rational_of n d
  unfolding rational_of
  rational_not e = rw e

pub denominator_is : (R p : ℕ) (s : List ℕ) {d : Option Int} → d ≡ integer R p s → d ≡ denominator R p s
unfolding denominator
denominator_is R p s e = e

-- whether no digit stands at a place
module _ (R : ℕ) (t : List ℕ) (p : ℕ) where
  pub no_digit_past : length t ≤ p → true ≡ eqb (digits R (drop p t)) 0
  unfolding span
  no_digit_past h = simp (past t p h)

  pub no_digit_here : p < length t → (d : ℕ) → d ≡ digit_of (get_or t p 0) → leb R d ≡ eqb (digits R (drop p t)) 0
  unfolding span
  no_digit_here h d e = rw (e, here t p h) (by_bool (ltb (digit_of (get_or t p 0)) R)
      (λ b. simp (b, lt-leb R (digit_of (get_or t p 0)) (ltb-true (digit_of (get_or t p 0)) R b), ne_eqb (suc (digits R (drop (p + 1) t))) 0 (λ z. omega arith)))
      (λ b. simp (b, le-leb R (digit_of (get_or t p 0)) (ltb-false (digit_of (get_or t p 0)) R b))))

-- a text that is one decimal: its sign at place 0, the decimal from a on
pub one_decimal_at : (t : List ℕ) (neg : Bool) (a : ℕ) (x : Option Real) (r : Option Point) → neg ≡ starts (code "-") (drop 0 t)
    → a ≡ 0 + sign (drop 0 t) → x ≡ decimal neg a (drop a t) → r ≡ point_in x → r ≡ one_decimal t
unfolding one_decimal
one_decimal_at t neg a x r g e z y = let q : a ≡ sign t = e ∙ zero-add (sign t) in y ∙ ap point_in (rw (g, q) at z)
