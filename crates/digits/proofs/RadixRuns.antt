-- A run of digits of a radix up to 16 in one pass: its value has no more digits of radix 16 than there are places before.
use Rattle.digits.specs.Digits.{short_in_any, top}
use Rattle.digits.proofs.DecimalRuns.{top_ge}
use Prim.Native.Nat.{ℕ, ◌+◌, ◌*◌, ◌^◌, ◌≤◌, ◌<◌}
use mathlib.Core.Path.{◌≡◌}
use mathlib.Core.Bool.{Bool}
use lib.Dec.{lit<}
use native.Mathlib.Omega.{arith}
use native.Mathlib.Nat.{pow-suc, pow-le-pow_right, mul-le-mul_left, lt_of_lt_of_le, le_trans}
use native.Mathlib.Numerals.{add-one}

sixteen_le : (i j : ℕ) → i ≤ j → 16 ^ i ≤ 16 ^ j
sixteen_le i j h = pow-le-pow_right (lit< tt) h

pub sixteen_some : (i : ℕ) → 0 < 16 ^ i
sixteen_some i = sixteen_le 0 i (omega arith)

-- the digit d of the radix R, after the value v
module _ (R v i d : ℕ) (r : R ≤ 16) (l : d < R) (h : v < 16 ^ i) where
  pub radix_grows : v * R + d < 16 ^ (i + 1)
  radix_grows =
      let e : 16 ^ (i + 1) ≡ 16 ^ i * 16 = rw add-one (pow-suc 16 i) in
      let m : v * R ≤ v * 16 = mul-le-mul_left v r in
      rw e (omega arith)

  pub radix_holds : i < short_in_any → v * R + d < 2 ^ 63
  radix_holds k = lt_of_lt_of_le radix_grows (le_trans (sixteen_le (i + 1) short_in_any (omega arith)) (omega arith))

-- as many digits as a text has bytes that is short in any radix, n
pub radix_top : (neg : Bool) (n e m : ℕ) → n ≤ short_in_any → e ≤ n → m < 16 ^ e → m < top neg
radix_top neg n e m l f h =
    lt_of_lt_of_le h (le_trans (sixteen_le e short_in_any (omega arith)) (le_trans (omega arith) (top_ge neg)))
