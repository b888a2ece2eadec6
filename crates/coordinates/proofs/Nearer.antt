-- What `Rounded` states implies the textbook's words: no number of 53 binary digits is nearer.
use Rattle.std.proofs.Common.{◌≡◌, ℕ, ◌+◌, ◌-◌, ◌*◌, ◌^◌, ◌<◌, ◌≤◌, Bool, true, false, ltb, sym, refl, ap, ◌∙◌, le_trans, le_of_eq, le_of_lt, mul-le-mul_right, mul_assoc, add-mul, mul-le-mul_left, one-mul, mul_right_comm, arith, pow_mono, pow-add, ltb-false, ltb-true}
use native.Mathlib.Nat.{pow-succ'}
use lib.Ieee.{Float}
use Rattle.coordinates.specs.Nearest.{distance, Rounded, NoneNearer}
use Rattle.coordinates.proofs.OneAnswer.{At, at_of, raised, distance_mul}

-- among the multiples of the unit
apart_low : (n u a b : ℕ) → b + u ≤ a → distance n a * 2 ≤ u → distance n a ≤ distance n b
apart_low n u a b h k = omega arith

apart_high : (n u a b : ℕ) → a + u ≤ b → distance n a * 2 ≤ u → distance n a ≤ distance n b
apart_high n u a b h k = omega arith

step : (u q r : ℕ) → q < r → q * u + u ≤ r * u
step u q r l = le_trans (le_of_eq (ap (λ (z : ℕ). q * u + z) (sym (one-mul u)) ∙ sym (add-mul q 1 u))) (mul-le-mul_right u (omega arith))

multiples : (n u q r : ℕ) → distance n (q * u) * 2 ≤ u → distance n (q * u) ≤ distance n (r * u)
multiples n u q r h = go (ltb q r) refl (ltb r q) refl
  where
    go : (a : Bool) → ltb q r ≡ a → (b : Bool) → ltb r q ≡ b → distance n (q * u) ≤ distance n (r * u)
    go true e b f = apart_high n u (q * u) (r * u) (step u q r (ltb-true q r e)) h
    go false e true f = apart_low n u (q * u) (r * u) (step u r q (ltb-true r q f)) h
    go false e false f = let z : q ≡ r = omega (arith, ltb-false q r e, ltb-false r q f) in le_of_eq (ap (λ (x : ℕ). distance n (x * u)) z)

-- among all: m units of 2 ^ w against q units of 2 ^ k
farther : (n x y : ℕ) → y ≤ x → x ≤ n → distance n x ≤ distance n y
farther n x y h k = omega arith

among : (n den k w q m : ℕ) → At n (2 ^ k * den) q → m < 2 ^ 53 → distance n (q * (2 ^ k * den)) ≤ distance n (m * (2 ^ w * den))
among n den k w q m h l = go (ltb w k) refl
  where
    go : (b : Bool) → ltb w k ≡ b → distance n (q * (2 ^ k * den)) ≤ distance n (m * (2 ^ w * den))
    go true e =
        let a : m * (2 ^ w * den) ≤ 2 ^ 52 * (2 ^ k * den) =
        le_trans (mul-le-mul_right (2 ^ w * den) (le_of_lt l))
        (le_trans (le_of_eq (mul_assoc (2 ^ 52) 2 (2 ^ w * den) ∙ ap (λ (z : ℕ). 2 ^ 52 * z)
        (sym (mul_assoc 2 (2 ^ w) den) ∙ ap (λ (z : ℕ). z * den) (sym (pow-succ' 2 w)))))
        (mul-le-mul_left (2 ^ 52) (mul-le-mul_right den (pow_mono (ltb-true w k e))))) in
        le_trans (multiples n (2 ^ k * den) q (2 ^ 52) h.2) (farther n (2 ^ 52 * (2 ^ k * den)) (m * (2 ^ w * den)) a h.0)
    go false e =
        let j = w - k in
        let i : w ≡ j + k = omega (arith, ltb-false w k e) in
        let a : m * 2 ^ j * (2 ^ k * den) ≡ m * (2 ^ w * den) =
        mul_assoc m (2 ^ j) (2 ^ k * den) ∙ ap (λ (z : ℕ). m * z)
        (sym (mul_assoc (2 ^ j) (2 ^ k) den) ∙ ap (λ (z : ℕ). z * den) (sym (pow-add 2 j k) ∙ ap (λ (z : ℕ). 2 ^ z) (sym i))) in
        le_trans (multiples n (2 ^ k * den) q (m * 2 ^ j) h.2) (le_of_eq (ap (distance n) a))

pub none_nearer : {s : Bool} {num den : ℕ} {x : Float} (r : Rounded s num den x) → NoneNearer num den (r.q * 2 ^ r.k) (2 ^ r.l)
none_nearer {s} {num} {den} r m i j h =
    let k = r.k in
    let l = r.l in
    let q = r.q in
    let a : distance (num * 2 ^ l) (q * 2 ^ k * den) * 2 ^ j ≡ distance (num * 2 ^ (l + j)) (q * (2 ^ (k + j) * den)) =
    sym (distance_mul (num * 2 ^ l) (q * 2 ^ k * den) (2 ^ j))
    ∙ ap (λ (z : ℕ). distance z (q * 2 ^ k * den * 2 ^ j)) (mul_assoc num (2 ^ l) (2 ^ j) ∙ ap (λ (z : ℕ). num * z) (sym (pow-add 2 l j)))
    ∙ ap (distance (num * 2 ^ (l + j))) (ap (λ (z : ℕ). z * 2 ^ j) (mul_assoc q (2 ^ k) den) ∙ mul_assoc q (2 ^ k * den) (2 ^ j) ∙ ap
    (λ (z : ℕ). q * z) (mul_right_comm (2 ^ k) den (2 ^ j) ∙ ap (λ (z : ℕ). z * den) (sym (pow-add 2 k j)))) in
    let b : distance (num * 2 ^ j) (m * 2 ^ i * den) * 2 ^ l ≡ distance (num * 2 ^ (l + j)) (m * (2 ^ (i + l) * den)) =
    sym (distance_mul (num * 2 ^ j) (m * 2 ^ i * den) (2 ^ l))
    ∙ ap (λ (z : ℕ). distance z (m * 2 ^ i * den * 2 ^ l))
    (mul_right_comm num (2 ^ j) (2 ^ l) ∙ mul_assoc num (2 ^ l) (2 ^ j) ∙ ap (λ (z : ℕ). num * z) (sym (pow-add 2 l j)))
    ∙ ap (distance (num * 2 ^ (l + j))) (ap (λ (z : ℕ). z * 2 ^ l) (mul_assoc m (2 ^ i) den) ∙ mul_assoc m (2 ^ i * den) (2 ^ l) ∙ ap
    (λ (z : ℕ). m * z) (mul_right_comm (2 ^ i) den (2 ^ l) ∙ ap (λ (z : ℕ). z * den) (sym (pow-add 2 i l)))) in
    le_trans (le_of_eq a) (le_trans (among (num * 2 ^ (l + j)) den (k + j) (i + l) q m (raised num den k l q j (at_of r)) h) (le_of_eq (sym b)))
