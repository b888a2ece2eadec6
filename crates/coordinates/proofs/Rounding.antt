-- `round` at binary64 is what specs/Nearest states over whole numbers, for a fraction in the normal range.
use Rattle.std.proofs.Common.{◌≡◌, ℕ, zero, suc, ◌+◌, ◌-◌, ◌*◌, ◌/◌, ◌%◌, ◌^◌, ◌<◌, ◌≤◌, Bool, not, T, eqb, ◌⊎◌, pos, sym, refl, ap, ◌∙◌, subst, inl, inr, le_trans, le_of_eq, lt_of_le_of_lt, mul-le-mul_right, mod-lt, zero-lt-suc, mul_assoc, suc-mul, mul_comm, div-lt_iff_lt-mul, mul-le-mul, mul-le-mul_left, mul-pos, div-add-mod', le-div_iff_mul-le, zero-mul, div-le_self, arith, lit<, lit≤, eqb→eq, leb→le, pow_pos, pow-add, shl_lt}
use Prim.Native.Nat.{compare, Ordering}
use native.Mathlib.Nat.{div-div-eq-div-mul}
use native.Mathlib.Nat.{pow-le-pow_right}
use lib.Dec.{is_le, compare_is_eq, nleb→lt, eqb_refl}
use lib.Arith.{lt_of_le-ne}
use lib.Pow.{pow-lt}
use Rattle.coordinates.proofs.Floats.{ten_pos}
use lib.Ieee.{Float, fin, binary64, size, round, nearest}
use lib.Ieee.Digits.{size-lt, size-le, size_reaches}
use lib.Ieee.Fits.{nearest-le, kept-lt, round_is}
use lib.Ieee.Exact.{HasValue, units_val}
use lib.Ieee.Nearest.{closest}
use lib.Ieee.Scale.{normal_of_fraction, round_same}
use Rattle.coordinates.specs.Nearest.{distance, Rounded, Nearest}

-- the nearest whole number
abbrev Cmp : Ordering → ℕ → ℕ → Type 0
Cmp Ordering.lt a b = a < b
Cmp Ordering.eq a b = a ≡ b
Cmp Ordering.gt a b = b < a

cmp : (a b : ℕ) → Cmp (compare a b) a b
cmp a b = go (compare a b) (leb→le a b) (nleb→lt a b) (eqb→eq a b) (λ (e : a ≡ b). subst (λ (x : ℕ). T (eqb a x)) e (eqb_refl a))
  where
    go : (o : Ordering) → (T (is_le o) → a ≤ b) → (T (not (is_le o)) → b < a) → (T (compare_is_eq o) → a ≡ b) → (a ≡ b → T (compare_is_eq o)) → Cmp o a b
    go Ordering.lt h k e n = lt_of_le-ne (h tt) n
    go Ordering.eq h k e n = e tt
    go Ordering.gt h k e n = k tt

-- n / u to the nearest, ties to even: q with n at most half of u away from q * u, and even at half of u
abbrev pub Near : ℕ → ℕ → ℕ → Type 0
Near n u q = (distance n (q * u) * 2 ≤ u) × (distance n (q * u) * 2 ≡ u → q % 2 ≡ 0)

low_near : (n u w r p : ℕ) → p ≡ w * u → p + r ≡ n → r * 2 ≤ u → (r * 2 ≡ u → w % 2 ≡ 0) → Near n u w
low_near n u w r p e d h k = rw (← e) (omega arith, λ g. k (omega arith))

high_near : (n u w r p : ℕ) → p ≡ suc w * u → p ≡ n + (u - r) → r ≤ u → u ≤ r * 2 → (r * 2 ≡ u → suc w % 2 ≡ 0) → Near n u (suc w)
high_near n u w r p e d l h k = rw (← e) (omega arith, λ g. k (omega arith))

even_or_odd : (w : ℕ) → ((w % 2 ≡ 0) × (w + w % 2 ≡ w)) ⊎ ((suc w % 2 ≡ 0) × (w + w % 2 ≡ suc w))
even_or_odd w = go (w % 2) refl
  where
    go : (r : ℕ) → w % 2 ≡ r → ((w % 2 ≡ 0) × (w + w % 2 ≡ w)) ⊎ ((suc w % 2 ≡ 0) × (w + w % 2 ≡ suc w))
    go zero e = inl (omega arith)
    go (suc r) e = inr (omega arith)

near_by : (n u w r : ℕ) (o : Ordering) → Cmp o (r * 2) u → w * u + r ≡ n → r < u → Near n u (nearest w o)
near_by n u w r Ordering.lt c e l = low_near n u w r (w * u) refl e (omega arith) (λ g. absurd (no (r * 2) u c g))
  where
    no : (a b : ℕ) → a < b → a ≡ b → ⊥
    no a b h k = omega arith
near_by n u w r Ordering.gt c e l =
    high_near n u w r (suc w * u) refl (suc-mul w u ∙ up (w * u) e l) (omega arith) (omega arith) (λ g. absurd (no (r * 2) u c g))
  where
    no : (a b : ℕ) → b < a → a ≡ b → ⊥
    no a b h k = omega arith

    up : (p : ℕ) → p + r ≡ n → r < u → p + u ≡ n + (u - r)
    up p e l = omega arith
near_by n u w r Ordering.eq c e l = go (even_or_odd w)
  where
    up : (p : ℕ) → p + r ≡ n → r < u → p + u ≡ n + (u - r)
    up p e l = omega arith

    go : ((w % 2 ≡ 0) × (w + w % 2 ≡ w)) ⊎ ((suc w % 2 ≡ 0) × (w + w % 2 ≡ suc w)) → Near n u (w + w % 2)
    go (inl h) = subst (Near n u) (sym h.1) (low_near n u w r (w * u) refl e (le_of_eq c) (λ g. h.0))
    go (inr h) =
        subst (Near n u) (sym h.1) (high_near n u w r (suc w * u) refl (suc-mul w u ∙ up (w * u) e l) (omega arith) (le_of_eq (sym c)) (λ g. h.0))

pub closest_near : (n u : ℕ) → 0 < u → Near n u (closest n u)
closest_near n u h = near_by n u (n / u) (n % u) (compare (n % u * 2) u) (cmp (n % u * 2) u) (div-add-mod' n u) (mod-lt n h)

-- a fraction num / den in the normal range, n being num in units of 1 / 2 ^ 1074
over : (z : ℕ) → 53 ≤ z → 53 + (z - 53) ≡ z
over z h = omega arith

under : (z : ℕ) → 53 ≤ z → 52 + (z - 53) < z
under z h = omega arith

pub round_rounded : (s : Bool) (num den : ℕ) → 0 < den → 2 ^ 52 * den ≤ num * 2 ^ 1074 → num < 2 ^ 200 → Rounded s num den (round binary64 s num den)
round_rounded s num den D normal few =
    let n = num * 2 ^ 1074 in
    let w = n / den in
    let z = size w in
    let k = z - 53 in
    let u = den * 2 ^ k in
    let q = closest n u in
    let full : 53 ≤ z = normal_of_fraction binary64 num den D normal in
    let lo : 2 ^ (52 + k) * den ≤ n = (le-div_iff_mul-le D).0 (size_reaches w (52 + k) (under z full)) in
    let hi : n < 2 ^ (53 + k) * den = (div-lt_iff_lt-mul D).0 (subst (λ (x : ℕ). w < 2 ^ x) (sym (over z full)) (size-lt w)) in
    let top : z ≤ 1274 = size-le w 1274 (lt_of_le_of_lt (div-le_self n den) (shl_lt 200 1074 few)) in
    let q-le : q ≤ 2 ^ 53 = le_trans (nearest-le (n / u) (compare (n % u * 2) u))
    (subst (λ (x : ℕ). x < 2 ^ 53) (div-div-eq-div-mul n den (2 ^ k)) (kept-lt 53 w)) in
    let fine : q * 2 ^ k < 2 ^ 2098 =
    lt_of_le_of_lt (mul-le-mul_right (2 ^ k) q-le)
    (subst (λ (x : ℕ). x < 2 ^ 2098) (ap (λ (x : ℕ). 2 ^ x) (sym (over z full)) ∙ pow-add 2 53 k)
    (pow-lt {j = 2098} (lt_of_le_of_lt top (lit< tt)))) in
    let near = subst (λ (v : ℕ). Near n v q) (mul_comm den (2 ^ k)) (closest_near n u (mul-pos D (pow_pos k))) in
    record {
      k = k;
      l = 1074;
      q = q;
      least = subst (λ (x : ℕ). x ≤ n) (ap (λ (x : ℕ). x * den) (pow-add 2 52 k) ∙ mul_assoc (2 ^ 52) (2 ^ k) den) lo;
      below = subst (λ (x : ℕ). n < x) (ap (λ (x : ℕ). x * den) (pow-add 2 53 k) ∙ mul_assoc (2 ^ 53) (2 ^ k) den) hi;
      value = subst (λ (x : Float). HasValue x s (q * 2 ^ k) (2 ^ 1074)) (sym (round_is binary64 s num den)) (units_val binary64 s q k fine);
      near = near.0;
      tie = near.1;
    }

-- zero keeps its sign
one_zero : (s : Bool) → round binary64 s 0 1 ≡ fin s 0 (pos 0)
unfolding round
one_zero s = refl

pub round_zero : (s : Bool) (den : ℕ) → 0 < den → round binary64 s 0 den ≡ fin s 0 (pos 0)
round_zero s den D = round_same binary64 s 0 den 0 1 D (lit< tt) (zero-mul 1 ∙ sym (zero-mul den)) ∙ one_zero s

pub nearest_of : (s : Bool) (num den : ℕ) → 0 < den → (0 < num → 2 ^ 52 * den ≤ num * 2 ^ 1074) → num < 2 ^ 200
    → Nearest s num den (round binary64 s num den)
nearest_of s zero den D normal few = round_zero s den D
nearest_of s (suc n) den D normal few = round_rounded s (suc n) den D (normal (zero-lt-suc n)) few

-- the range of a coordinate
ten_le : (k : ℕ) → k ≤ 22 → 10 ^ k ≤ 10 ^ 22
ten_le k h = pow-le-pow_right (lit< tt) h

up_few : (m k : ℕ) → m ≤ 2 ^ 53 → k ≤ 22 → m * 10 ^ k < 2 ^ 200
up_few m k h l = lt_of_le_of_lt (mul-le-mul h (ten_le k l)) (lit< tt)

unit_normal : (num den : ℕ) → den ≤ 10 ^ 22 → 0 < num → 2 ^ 52 * den ≤ num * 2 ^ 1074
unit_normal num den h p = le_trans (mul-le-mul_left (2 ^ 52) h) (le_trans (lit≤ tt) (mul-le-mul_right (2 ^ 1074) p))

pub up_nearest : (s : Bool) (m k : ℕ) → m ≤ 2 ^ 53 → k ≤ 22 → Nearest s (m * 10 ^ k) 1 (round binary64 s (m * 10 ^ k) 1)
up_nearest s m k h l = nearest_of s (m * 10 ^ k) 1 (lit< tt) (unit_normal (m * 10 ^ k) 1 (lit≤ tt)) (up_few m k h l)

pub down_nearest : (s : Bool) (m k : ℕ) → m ≤ 2 ^ 53 → k ≤ 22 → Nearest s m (10 ^ k) (round binary64 s m (10 ^ k))
down_nearest s m k h l = nearest_of s m (10 ^ k) (ten_pos k) (unit_normal m (10 ^ k) (ten_le k l)) (lt_of_le_of_lt h (lit< tt))
