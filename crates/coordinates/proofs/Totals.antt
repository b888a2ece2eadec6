-- Digits as whole numbers up to 2 ^ 53, those past it counted alike, and the answer that they weigh.
use Rattle.std.proofs.Common.{◌≡◌, ℕ, ◌+◌, ◌*◌, ◌^◌, ◌<◌, ◌≤◌, Bool, leb, List, [], ◌∷◌, ◌++◌, ℤ, pos, ◌-ℤ◌, sym, refl, ap, ◌∙◌, le_of_eq, lt_of_lt_of_le, arith, le-leb, leb-false, leb-true}
use borrow.Author.Tests.{lt-leb}
use Rattle.laws.proofs.Choice.{by_bool}
use Rattle.digits.specs.Digits.{value, digit_of, signed}
use Rattle.digits.proofs.Integers.{value_ge}
use Rattle.coordinates.specs.Answers.{Answer}
use Rattle.coordinates.specs.Coordinate.{scaled, outside}
use Rattle.coordinates.specs.Inner.{capped, weighed}
use Rattle.coordinates.proofs.Scales.{far}

-- a whole number up to 2 ^ 53, or past it
pub capped_in : (n : ℕ) → n ≤ 2 ^ 53 → capped n ≡ n
unfolding capped
capped_in n h = simp (le-leb _ _ h)

pub capped_out : (n : ℕ) → 2 ^ 53 < n → capped n ≡ 2 ^ 53 + 1
unfolding capped
capped_out n h = simp (lt-leb _ _ h)

pub capped_le : (n : ℕ) → capped n ≤ n
capped_le n =
    by_bool (leb n (2 ^ 53))
    (λ e. le_of_eq (capped_in n (leb-true n (2 ^ 53) e)))
    (λ e. let l = leb-false n (2 ^ 53) e in rw (capped_out n l) (omega arith))

pub capped_room : (n : ℕ) → capped n ≤ 2 ^ 53 + 1
capped_room n =
    by_bool (leb n (2 ^ 53))
    (λ e. let l = leb-true n (2 ^ 53) e in rw (capped_in n l) (omega arith))
    (λ e. le_of_eq (capped_out n (leb-false n (2 ^ 53) e)))

-- two that count alike are one, or both are past 2 ^ 53
pub alike : {P : Type 0} (m n : ℕ) → capped m ≡ capped n → (m ≡ n → P) → (2 ^ 53 < m → 2 ^ 53 < n → P) → P
alike m n h f g =
    by_bool (leb m (2 ^ 53))
    (λ e. by_bool (leb n (2 ^ 53))
    (λ i. f (sym (capped_in m (leb-true _ _ e)) ∙ h ∙ capped_in n (leb-true _ _ i)))
    (λ i. let a = leb-true m (2 ^ 53) e in let b = sym (capped_in m a) ∙ h ∙ capped_out n (leb-false _ _ i) in absurd (omega arith)))
    (λ e. by_bool (leb n (2 ^ 53))
    (λ i. let a = leb-true n (2 ^ 53) i in let b = sym (capped_in n a) ∙ sym h ∙ capped_out m (leb-false _ _ e) in absurd (omega arith))
    (λ i. g (leb-false _ _ e) (leb-false _ _ i)))

pub capped_twice : (n : ℕ) → capped (capped n) ≡ capped n
capped_twice n =
    by_bool (leb n (2 ^ 53))
    (λ e. ap capped (capped_in n (leb-true n (2 ^ 53) e)))
    (λ e. let o = capped_out n (leb-false n (2 ^ 53) e) in ap capped o ∙ capped_out (2 ^ 53 + 1) (omega arith) ∙ sym o)

-- more digits after them
pub alike_value : (m n : ℕ) (s : List ℕ) → capped m ≡ capped n → capped (value 10 m s) ≡ capped (value 10 n s)
alike_value m n s h =
    alike m n h (λ e. ap (λ (x : ℕ). capped (value 10 x s)) e)
    (λ a b. capped_out _ (lt_of_lt_of_le a (value_ge 10 (omega arith) m s))
    ∙ sym (capped_out _ (lt_of_lt_of_le b (value_ge 10 (omega arith) n s))))

pub value_app : (R n : ℕ) (a b : List ℕ) → value R n (a ++ b) ≡ value R (value R n a) b
unfolding value
value_app R n [] b = refl
value_app R n (c ∷ a) b = value_app R (n * R + digit_of c) a b

-- what they weigh
module _ (neg : Bool) (m : ℕ) (z : ℤ) where
  pub weighed_in : m ≤ 2 ^ 53 → (r : Answer) → r ≡ scaled neg m z → r ≡ weighed neg m z
  unfolding weighed
  weighed_in h r e = simp (le-leb _ _ h) e

  pub weighed_out : 2 ^ 53 < m → outside ≡ weighed neg m z
  unfolding weighed
  weighed_out h = simp (lt-leb _ _ h)

pub weighed_alike : (neg : Bool) (m n : ℕ) (z : ℤ) → capped m ≡ capped n → weighed neg m z ≡ weighed neg n z
weighed_alike neg m n z h =
    alike m n h (λ e. ap (λ (x : ℕ). weighed neg x z) e) (λ a b. sym (weighed_out neg m z a) ∙ weighed_out neg n z b)

-- an exponent past 2 ^ 53 is out of range, whatever the digits
weighed_far : (neg : Bool) (m : ℕ) (d : Bool) (e f : ℕ) → 2 ^ 53 < e → f < 2 ^ 32 → outside ≡ weighed neg m (signed d e -ℤ pos f)
weighed_far neg m d e f h l =
    by_bool (leb m (2 ^ 53))
    (λ i. weighed_in neg m _ (leb-true m (2 ^ 53) i) outside (far neg m d e f h l))
    (λ i. weighed_out neg m _ (leb-false m (2 ^ 53) i))

pub exponent_alike : (neg : Bool) (m : ℕ) (d : Bool) (e x f : ℕ) → capped e ≡ capped x → f < 2 ^ 32
    → weighed neg m (signed d e -ℤ pos f) ≡ weighed neg m (signed d x -ℤ pos f)
exponent_alike neg m d e x f h l =
    alike e x h (λ q. ap (λ (y : ℕ). weighed neg m (signed d y -ℤ pos f)) q)
    (λ a b. sym (weighed_far neg m d e f a l) ∙ weighed_far neg m d x f b l)
