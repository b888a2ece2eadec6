-- One digit, a run of digits, a sign: what the definitions say at a place of a text.
use Rattle.digits.specs.Digits.{no_digit, digit_of, digits, sign, uinteger}
use Rattle.std.specs.Prelude.{if◌then◌else◌}
use Rattle.laws.specs.Letters.{is_sign}
use Rattle.laws.specs.Quoted.{code, within}
use Rattle.laws.proofs.Choice.{by_bool, no_yes, yes_no, if_all, if_is, within_is, impossible}
use Rattle.laws.proofs.Places.{past, here}
use Rattle.laws.proofs.Runs.{span_hit, span_stop, span_end}
use Prim.Native.Nat.{ℕ, ◌+◌, ◌-◌, ◌≤◌, ◌<◌}
use mathlib.Core.Path.{◌≡◌, refl, sym, ap, ◌∙◌}
use mathlib.Core.Bool.{Bool, true, false, ◌||◌}
use mathlib.Core.List.{List}
use mathlib.Core.Logic.{◌⊎◌, inl, inr}
use lib.ListN.{length, get_or, drop, length-drop}
use lib.Dec.{eqb, leb, ltb}
use native.Mathlib.Omega.{arith}
use borrow.Author.Tests.{lt-ltb, le-ltb, eq-eqb, ne_eqb, eqb-true, eqb-false, leb-true, leb-false}

-- each case of a digit
module _ (c : ℕ) where
  pub digit_decimal : true ≡ within (code "0") (code "9") c → c - code "0" ≡ digit_of c
  unfolding digit_of
  digit_decimal h = simp (← h)

  module _ (n : false ≡ within (code "0") (code "9") c) where
    pub digit_upper : true ≡ within (code "A") (code "F") c → c - code "A" + 10 ≡ digit_of c
    unfolding digit_of
    digit_upper h = simp (← n, ← h)

    module _ (m : false ≡ within (code "A") (code "F") c) where
      pub digit_lower : true ≡ within (code "a") (code "f") c → c - code "a" + 10 ≡ digit_of c
      unfolding digit_of
      digit_lower h = simp (← n, ← m, ← h)

      pub digit_none : false ≡ within (code "a") (code "f") c → no_digit ≡ digit_of c
      unfolding digit_of
      digit_none h = simp (← n, ← m, ← h)

  -- what holds of each digit and of no_digit holds of every character's
  pub digit_all : (P : ℕ → Type 0)
      → ((code "0" ≤ c) × (c ≤ code "9") → P (c - code "0"))
      → ((code "A" ≤ c) × (c ≤ code "F") → P (c - code "A" + 10))
      → ((code "a" ≤ c) × (c ≤ code "f") → P (c - code "a" + 10))
      → P no_digit → P (digit_of c)
  unfolding digit_of
  digit_all P d u l n =
      if_is P (within (code "0") (code "9") c) (λ h. d (within_is _ _ _ h)) (λ _.
      if_is P (within (code "A") (code "F") c) (λ h. u (within_is _ _ _ h)) (λ _.
      if_is P (within (code "a") (code "f") c) (λ h. l (within_is _ _ _ h)) (λ _. n)))

  pub digit_le : digit_of c ≤ no_digit
  digit_le = digit_all (λ d. d ≤ no_digit) (λ h. omega arith) (λ h. omega arith) (λ h. omega arith) (omega arith)

  -- a digit of radix 10 is one of 0 to 9
  pub decimal_digit : ltb (digit_of c) 10 ≡ within (code "0") (code "9") c
  unfolding digit_of
  decimal_digit = by_bool (within (code "0") (code "9") c)
      (λ h. let r = within_is _ _ _ h in rw h (lt-ltb (c - code "0") 10 (omega arith)))
      (λ h. rw h (if_all (λ (d : ℕ). ltb d 10 ≡ false) (within (code "A") (code "F") c) (le-ltb (c - code "A" + 10) 10 (omega arith))
      (if_all (λ (d : ℕ). ltb d 10 ≡ false) (within (code "a") (code "f") c) (le-ltb (c - code "a" + 10) 10 (omega arith)) (le-ltb no_digit 10 (omega arith)))))

-- the byte at i, of the digit d
module _ (R : ℕ) (t : List ℕ) (i d : ℕ) (h : i < length t) (e : d ≡ digit_of (get_or t i 0)) where
  pub run_hit : d < R → i + digits R (drop i t) ≡ i + 1 + digits R (drop (i + 1) t)
  run_hit l = span_hit (λ c. ltb (digit_of c) R) t i h (lt-ltb _ _ (rw e at l))

  pub run_stop : R ≤ d → i + digits R (drop i t) ≡ i
  run_stop l = span_stop (λ c. ltb (digit_of c) R) t i h (le-ltb _ _ (rw e at l))

module _ (R : ℕ) (t : List ℕ) (i : ℕ) where
  pub run_end : length t ≤ i → i + digits R (drop i t) ≡ i
  run_end h = span_end (λ c. ltb (digit_of c) R) t i h

-- the byte at i, by whether it is one of 0 to 9
module _ (t : List ℕ) (i : ℕ) (h : i < length t) where
  pub decimal_hit : true ≡ within (code "0") (code "9") (get_or t i 0) → i + digits 10 (drop i t) ≡ i + 1 + digits 10 (drop (i + 1) t)
  decimal_hit e = span_hit (λ c. ltb (digit_of c) 10) t i h (decimal_digit (get_or t i 0) ∙ sym e)

  pub decimal_stop : false ≡ within (code "0") (code "9") (get_or t i 0) → i + digits 10 (drop i t) ≡ i
  decimal_stop e = span_stop (λ c. ltb (digit_of c) 10) t i h (decimal_digit (get_or t i 0) ∙ sym e)

-- what the test of a sign tells
pub is_sign_told : (c : ℕ) → true ≡ is_sign c → (c ≡ code "+") ⊎ (c ≡ code "-")
unfolding is_sign
is_sign_told c h = by_bool (eqb c (code "+"))
    (λ e. inl (eqb-true c (code "+") e))
    (λ e. inr (eqb-true c (code "-") (sym (simp e at h))))

pub no_sign_told : (c : ℕ) → false ≡ is_sign c → (c ≡ code "+" → ⊥) × (c ≡ code "-" → ⊥)
unfolding is_sign
no_sign_told c h = ((λ e. no_yes (rw e at h)), (λ e. no_yes (rw e at h)))

-- a sign takes one character, and any other none
one_sign : (x y : Bool) → true ≡ (x || y) → ◌≡◌ {A = ℕ} 1 (if x then 1 else if y then 1 else 0)
one_sign true y e = refl
one_sign false true e = refl
one_sign false false e = yes_no e

no_sign : (x y : Bool) → false ≡ (x || y) → ◌≡◌ {A = ℕ} (if x then 1 else if y then 1 else 0) 0
no_sign true y e = no_yes e
no_sign false true e = no_yes e
no_sign false false e = refl

-- the sign at a place
module _ (t : List ℕ) (i : ℕ) where
  pub sign_past : length t ≤ i → i ≡ i + sign (drop i t)
  unfolding sign
  sign_past h = simp (past t i h) (omega arith)

  module _ (h : i < length t) where
    pub sign_is : true ≡ is_sign (get_or t i 0) → i + 1 ≡ i + sign (drop i t)
    unfolding sign is_sign
    sign_is e = rw (here t i h) (ap (λ n. i + n) (one_sign _ _ e))

    pub sign_not : false ≡ is_sign (get_or t i 0) → i ≡ i + sign (drop i t)
    unfolding sign is_sign
    sign_not e = rw (here t i h) (rw (no_sign (eqb (get_or t i 0) (code "+")) (eqb (get_or t i 0) (code "-")) e) (omega arith))

    module _ (n : get_or t i 0 ≡ code "+" → ⊥) where
      pub sign_none : (get_or t i 0 ≡ code "-" → ⊥) → i ≡ i + sign (drop i t)
      unfolding sign
      sign_none m = simp (here t i h, ne_eqb _ (code "+") n, ne_eqb _ (code "-") m) (omega arith)

-- digits and nothing else
module _ (R : ℕ) (t : List ℕ) (i : ℕ) where
  pub uinteger_past : length t ≤ i → false ≡ uinteger R (drop i t)
  unfolding uinteger
  uinteger_past h = simp (past t i h)

  pub uinteger_run : (e : ℕ) → i < length t → e ≡ i + digits R (drop i t) → eqb e (length t) ≡ uinteger R (drop i t)
  unfolding uinteger
  uinteger_run e h k = simp (lt-ltb 0 (length (drop i t)) (rw length-drop (omega arith))) (
      by_bool (eqb e (length t))
      (λ b. b ∙ sym (eq-eqb (digits R (drop i t)) (length (drop i t)) (rw length-drop (omega (arith, eqb-true e (length t) b)))))
      (λ b. b ∙ sym (ne_eqb (digits R (drop i t)) (length (drop i t)) (λ x. eqb-false e (length t) b (omega (arith, length-drop i t))))))

  pub uinteger_in : true ≡ uinteger R (drop i t) → length t ≡ i + length (drop i t)
  uinteger_in h =
      by_bool (leb (length t) i)
      (λ e. let f = uinteger_past (leb-true _ _ e) in impossible cc)
      (λ e. omega (arith, leb-false (length t) i e, length-drop i t))
