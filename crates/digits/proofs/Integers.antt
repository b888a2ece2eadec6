-- The value of digits, read left to right, and the integer that they are.
use Rattle.std.proofs.Common.{None, Option, Some}
use Rattle.digits.specs.declared.Int.{Int}
use Rattle.digits.specs.declared.Int.TheVariants.{Small, Big}
use Rattle.digits.specs.Digits.{no_digit, digit_of, sign, uinteger, value, fit, signed, top, whole_of, integer}
use Rattle.digits.proofs.Digits.{digit_le, uinteger_in}
use Rattle.laws.specs.Quoted.{code}
use Rattle.laws.specs.Texts.{starts}
use Rattle.laws.proofs.Choice.{by_bool, impossible}
use Rattle.laws.proofs.Places.{past, cut_at}
use Prim.Native.Nat.{ℕ, zero, suc, ◌+◌, ◌-◌, ◌*◌, ◌/◌, ◌^◌, ◌≤◌, ◌<◌}
use mathlib.Core.Path.{◌≡◌, refl}
use mathlib.Core.Bool.{Bool, true, false}
use mathlib.Core.List.{List, [], ◌∷◌}
use lib.ListN.{length, get_or, drop}
use lib.IntN.{ℤ, pos, negsuc, ◌-ℤ◌}
use mir.Syntax.{w64}
use mir.Val.{to_z, of_z, SFits}
use mir.Facts.{to_z_pos, to_z-of_z}
use lib.Seq.{drop-cons}
use lib.Dec.{lit≤, lit<, leb}
use native.Mathlib.Omega.{arith}
use native.Mathlib.Numerals.{add-one, sub-one}
use native.Mathlib.Nat.{zero-add, le-mul_of_pos_right, div-lt_iff_lt-mul, le-div_iff_mul-le, le_refl, le_trans}
use borrow.Author.Tests.{lt-ltb, le-ltb, le-leb, lt-leb, leb-true, leb-false}
use borrow.Author.Rules.{sfits_of}

module _ (R : ℕ) (t : List ℕ) (n i : ℕ) where
  pub value_more : (d : ℕ) → i < length t → d ≡ digit_of (get_or t i 0) → value R n (drop i t) ≡ value R (n * R + d) (drop (i + 1) t)
  unfolding value
  value_more d h e = simp (drop-cons t i 0 h, add-one, e)

  pub value_end : length t ≤ i → value R n (drop i t) ≡ n
  unfolding value
  value_end h = simp (past t i h)

grow : (n R d : ℕ) → 1 ≤ R → n ≤ n * R + d
grow n R d h = omega (arith, le-mul_of_pos_right n h)

-- more digits, no smaller value
pub value_ge : (R : ℕ) → 1 ≤ R → (n : ℕ) (s : List ℕ) → n ≤ value R n s
unfolding value
value_ge R h n [] = le_refl n
value_ge R h n (c ∷ s) = le_trans (grow n R (digit_of c) h) (value_ge R h (n * R + digit_of c) s)

-- the test before the product v * R + d, with its quotient taken away; d is the digit of x
module _ (d x : ℕ) (e : d ≡ digit_of x) where
  pub digit_fits : d ≤ 2 ^ 63
  digit_fits = let k : d ≤ no_digit = rw e (digit_le x) in omega arith

  pub product_fits : (R v : ℕ) → 1 ≤ R → v ≤ (2 ^ 63 - d) / R → v * R + d ≤ 2 ^ 63
  product_fits R v r h = omega (arith, (le-div_iff_mul-le r).0 h, digit_fits)

pub product_over : (R : ℕ) (t : List ℕ) (v i d : ℕ) → 1 ≤ R → i < length t → d ≡ digit_of (get_or t i 0) → (2 ^ 63 - d) / R < v
    → 2 ^ 63 < value R v (drop i t)
product_over R t v i d r l e h =
    let k : 2 ^ 63 < v * R + d = omega (arith, (div-lt_iff_lt-mul r).0 h, digit_fits d _ e) in
    rw (value_more R t v i d l e) (le_trans k (value_ge R r (v * R + d) (drop (i + 1) t)))

module _ (n : ℕ) where
  pub fit_large : 2 ^ 63 < n → None ≡ fit n
  unfolding fit
  fit_large h = simp (lt-leb _ _ h)

  pub fit_fits : n ≤ 2 ^ 63 → Some n ≡ fit n
  unfolding fit
  fit_fits h = simp (le-leb _ _ h)

  pub fit_is : (m : ℕ) → Some m ≡ fit n → m ≡ n
  fit_is m h =
      by_bool (leb n (2 ^ 63))
      (λ e. let f = fit_fits (leb-true _ _ e) in cc)
      (λ e. let f = fit_large (leb-false _ _ e) in cc)

  pub fit_not : None ≡ fit n → 2 ^ 63 < n
  fit_not h =
      by_bool (leb n (2 ^ 63))
      (λ e. let f = fit_fits (leb-true _ _ e) in impossible cc)
      (λ e. leb-false _ _ e)

-- a signed number from its magnitude
pub signed_zero : (neg : Bool) (m : ℕ) → m ≡ 0 → pos 0 ≡ signed neg m
unfolding signed
signed_zero true m e = rw e
signed_zero false m e = rw e

pub signed_pos : (neg : Bool) (m : ℕ) → neg ≡ false → m < top neg → (m < 2 ^ 63) × (to_z w64 m ≡ signed neg m)
unfolding signed
signed_pos neg m e h = rw e (let k : m < 2 ^ 63 = rw e at h in (k, to_z_pos w64 k))

less : (k : ℕ) → negsuc 0 -ℤ pos k ≡ negsuc k
less zero = refl
less (suc n) = simp zero-add

pub signed_neg : (neg : Bool) (m : ℕ) → neg ≡ true → (m ≡ 0 → ⊥) → m < top neg → (m - 1 < 2 ^ 63) × (negsuc 0 -ℤ to_z w64 (m - 1) ≡ signed neg m)
unfolding signed
signed_neg neg zero e z h = absurd (z refl)
signed_neg neg (suc k) e z h = rw e (let j : k < 2 ^ 63 = omega (arith, rw e at h) in simp (sub-one, to_z_pos w64 j, less) (j, refl))

pub signed_fits : (neg : Bool) (m : ℕ) → m < top neg → SFits w64 (signed neg m)
unfolding signed
signed_fits false m h = sfits_of h
signed_fits true zero h = sfits_of (lit< tt)
signed_fits true (suc k) h = sfits_of (omega arith)

pub top_le : (neg : Bool) → top neg ≤ 2 ^ 63 + 1
top_le true = lit≤ tt
top_le false = lit≤ tt

-- the digits from a place on
module _ (R : ℕ) (neg : Bool) (p : ℕ) (t : List ℕ) where
  pub whole_no : false ≡ uinteger R (drop p t) → None ≡ whole_of R neg p (drop p t)
  unfolding whole_of
  whole_no h = simp (← h)

  module _ (u : true ≡ uinteger R (drop p t)) where
    -- z is kept as its 64 bits
    pub whole_small : (m : ℕ) (z : ℤ) → Some m ≡ fit (value R 0 (drop p t)) → m < top neg → z ≡ signed neg m
        → Some (Small (to_z w64 (of_z w64 z))) ≡ whole_of R neg p (drop p t)
    unfolding whole_of
    whole_small m z f l k = rw (k, to_z-of_z (signed_fits neg m l)) (let e = fit_is _ m f in simp (← u, ← e, lt-ltb m (top neg) l))

    big : top neg ≤ value R 0 (drop p t) → Some (Big neg (record { start = p; end = length t })) ≡ whole_of R neg p (drop p t)
    unfolding whole_of
    big l = simp (← u, le-ltb (value R 0 (drop p t)) (top neg) l, uinteger_in R t p u)

    pub whole_big : (m : ℕ) → Some m ≡ fit (value R 0 (drop p t)) → top neg ≤ m
        → Some (Big neg (record { start = p; end = length t })) ≡ whole_of R neg p (drop p t)
    whole_big m f l = big (rw (fit_is _ m f) at l)

    pub whole_large : None ≡ fit (value R 0 (drop p t)) → Some (Big neg (record { start = p; end = length t })) ≡ whole_of R neg p (drop p t)
    whole_large f = big (omega (arith, fit_not _ f, top_le neg))

-- a sign, then the digits
pub integer_is : (R p : ℕ) (t : List ℕ) (neg : Bool) (a : ℕ) (r : Option Int) → neg ≡ starts (code "-") (drop p t) → a ≡ p + sign (drop p t)
    → r ≡ whole_of R neg a (drop a t) → r ≡ integer R p (drop p t)
unfolding integer
integer_is R p t neg a r n e h = cc (cut_at t p (sign (drop p t)) a e)
