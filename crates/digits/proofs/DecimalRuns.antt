-- A run of decimal digits read in one pass: from each place on the value of the run is that of all, and it has no more digits than there
-- are places before.
use Rattle.std.proofs.Common.{Some}
use Rattle.digits.specs.declared.Int.TheVariants.{Small}
use Rattle.digits.specs.Digits.{digits, uinteger, value, run_value, short, signed, top, whole_of}
use Rattle.digits.proofs.Digits.{digit_decimal, decimal_digit}
use Rattle.digits.proofs.Integers.{fit_fits, top_le, whole_small}
use Rattle.laws.specs.Quoted.{code, within}
use Rattle.laws.specs.Texts.{span}
use Rattle.laws.proofs.Choice.{by_bool, within_is}
use Rattle.laws.proofs.Places.{past, here}
use Prim.Native.Nat.{ℕ, ◌+◌, ◌-◌, ◌*◌, ◌^◌, ◌≤◌, ◌<◌}
use mathlib.Core.Path.{◌≡◌, sym, ap, ◌∙◌}
use mathlib.Core.Bool.{Bool, true, false}
use mathlib.Core.List.{List}
use lib.ListN.{length, get_or, drop}
use lib.Seq.{take_all}
use lib.IntN.{ℤ}
use lib.Dec.{lit≤, lit<, ltb}
use mir.Syntax.{w64}
use mir.Val.{to_z, of_z}
use native.Mathlib.Omega.{arith}
use native.Mathlib.Nat.{pow-suc, pow-le-pow_right, lt_of_lt_of_le, le_trans}
use native.Mathlib.Numerals.{add-one}
use borrow.Author.Tests.{eqb-true, ltb-false}

-- ten to a place of a short text
ten_le : (i j : ℕ) → i ≤ j → 10 ^ i ≤ 10 ^ j
ten_le i j h = pow-le-pow_right (lit< tt) h

pub ten_some : (i : ℕ) → 0 < 10 ^ i
ten_some i = ten_le 0 i (omega arith)

-- the digit of x, after the value v
module _ (v i x : ℕ) (h : v < 10 ^ i) (w : true ≡ within (code "0") (code "9") x) where
  pub run_grows : v * 10 + (x - code "0") < 10 ^ (i + 1)
  run_grows =
      let r = within_is (code "0") (code "9") x (sym w) in
      let e : 10 ^ (i + 1) ≡ 10 ^ i * 10 = rw add-one (pow-suc 10 i) in
      rw e (omega arith)

  pub run_holds : i < short → v * 10 + (x - code "0") < 2 ^ 63
  run_holds l = lt_of_lt_of_le run_grows (le_trans (ten_le (i + 1) short (omega arith)) (omega arith))

-- the value of a run at a place
module _ (t : List ℕ) (n i : ℕ) where
  module _ (h : i < length t) where
    pub run_value_more : true ≡ within (code "0") (code "9") (get_or t i 0)
        → run_value n (drop i t) ≡ run_value (n * 10 + (get_or t i 0 - code "0")) (drop (i + 1) t)
    unfolding span value
    run_value_more w = simp (here t i h, decimal_digit (get_or t i 0), ← w, digit_decimal (get_or t i 0) w)

    pub run_value_stop : false ≡ within (code "0") (code "9") (get_or t i 0) → run_value n (drop i t) ≡ n
    unfolding span value
    run_value_stop w = simp (here t i h, decimal_digit (get_or t i 0), ← w)

  pub run_value_end : length t ≤ i → run_value n (drop i t) ≡ n
  unfolding span value
  run_value_end h = simp (past t i h)

uinteger-digits : (R : ℕ) (s : List ℕ) → true ≡ uinteger R s → length s ≤ digits R s
unfolding uinteger
uinteger-digits R s u =
    by_bool (ltb 0 (length s))
    (λ e. let k = eqb-true (digits R s) (length s) (sym (rw e at u)) in omega arith)
    (λ e. omega (arith, ltb-false 0 (length s) e))

pub top_ge : (neg : Bool) → 2 ^ 63 ≤ top neg
top_ge true = lit≤ tt
top_ge false = lit≤ tt

-- as many digits as a short text has bytes, n
pub short-top : (neg : Bool) (n e m : ℕ) → n ≤ short → e ≡ n → m < 10 ^ e → m < top neg
short-top neg n e m l f h = lt_of_lt_of_le h (le_trans (ten_le e short (omega arith)) (le_trans (omega arith) (top_ge neg)))

-- the integer of digits and nothing else from p on, of the value m
pub short_whole : (neg : Bool) (p : ℕ) (t : List ℕ) (m : ℕ) (z : ℤ) → true ≡ uinteger 10 (drop p t) → m ≡ run_value 0 (drop p t) → m < top neg
    → z ≡ signed neg m → Some (Small (to_z w64 (of_z w64 z))) ≡ whole_of 10 neg p (drop p t)
short_whole neg p t m z u v l s =
    let q : m ≡ value 10 0 (drop p t) = v ∙ ap (value 10 0) (take_all (digits 10 (drop p t)) (drop p t) (uinteger-digits 10 (drop p t) u)) in
    whole_small 10 neg p t u m z (rw q (fit_fits (value 10 0 (drop p t)) (omega (arith, top_le neg)))) l s
