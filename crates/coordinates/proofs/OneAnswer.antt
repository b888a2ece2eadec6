-- What specs/Nearest states over whole numbers has one answer: two f64 that meet it are the same, sign and all.
use Rattle.std.proofs.Common.{◌≡◌, ℕ, zero, suc, ◌+◌, ◌-◌, ◌*◌, ◌%◌, ◌^◌, ◌<◌, ◌≤◌, Bool, true, false, ◌&&◌, T, eqb, ltb, leb, ℤ, pos, negsuc, sym, refl, ap, ◌∙◌, subst, le_trans, le_of_eq, lt_of_lt_of_le, lt_irrefl, mul-le-mul_right, zero-lt-suc, mul_assoc, mul_comm, add-mul, add_comm, mul-le-mul_left, mul-lt-mul_of_pos_right, mul-pos, one-mul, pow-suc, zero-mul, mul-one, mul_right_comm, mul_left_comm, arith, eqb→eq, pow_pos, pow_mono, pow-add, ltb-false, ltb-true}
use native.Mathlib.Nat.{mul-sub}
use native.Mathlib.Nat.{eq_of_mul-eq-mul_right, pow-succ'}
use lib.Ieee.{Float, nan, inf, fin, binary64, up, down, fits}
use lib.Ieee.Fits.{and_l, down_pos}
use lib.Ieee.Exact.{HasValue}
use Rattle.coordinates.specs.Nearest.{distance, Rounded, Nearest}
use Rattle.coordinates.proofs.Floats.{no_zero}
use Rattle.coordinates.proofs.Rounding.{Near}

-- a value is written in one way
even_odd : (m t : ℕ) → m % 2 ≡ 1 → m ≡ 2 * t → ⊥
even_odd m t o h = omega arith

odd_pow : (m n a b : ℕ) → m % 2 ≡ 1 → n % 2 ≡ 1 → m * 2 ^ a ≡ n * 2 ^ b → (m ≡ n) × (a ≡ b)
odd_pow m n zero zero o p h = (sym (mul-one m) ∙ h ∙ mul-one n, refl)
odd_pow m n zero (suc b) o p h =
    absurd (even_odd m (n * 2 ^ b) o (sym (mul-one m) ∙ h ∙ ap (λ (x : ℕ). n * x) (pow-succ' 2 b) ∙ mul_left_comm n 2 (2 ^ b)))
odd_pow m n (suc a) zero o p h =
    absurd (even_odd n (m * 2 ^ a) p (sym (mul-one n) ∙ sym h ∙ ap (λ (x : ℕ). m * x) (pow-succ' 2 a) ∙ mul_left_comm m 2 (2 ^ a)))
odd_pow m n (suc a) (suc b) o p h =
    let r = odd_pow m n a b o p (eq_of_mul-eq-mul_right 2 (zero-lt-suc 1) (m * 2 ^ a) (n * 2 ^ b)
    (mul_assoc m (2 ^ a) 2 ∙ ap (λ (x : ℕ). m * x) (sym (pow-suc 2 a)) ∙ h ∙ ap (λ (x : ℕ). n * x) (pow-suc 2 b) ∙ sym (mul_assoc n (2 ^ b) 2))) in
    (r.0, ap suc r.1)

is_odd : (s : Bool) (m : ℕ) (e : ℤ) → T (fits binary64 (fin s (suc m) e)) → suc m % 2 ≡ 1
unfolding fits
is_odd s m e t =
    eqb→eq (suc m % 2) 1 (and_l (eqb (suc m % 2) 1) (ltb (suc m) (2 ^ 53))
    (and_l (eqb (suc m % 2) 1 && ltb (suc m) (2 ^ 53)) (leb (down e) (2 ^ 1074))
    (and_l (eqb (suc m % 2) 1 && ltb (suc m) (2 ^ 53) && leb (down e) (2 ^ 1074)) (ltb (suc m * up e) (2 ^ 1024 * down e)) t)))

abbrev rise : ℤ → ℕ
rise (pos k) = k
rise (negsuc k) = 0

abbrev fall : ℤ → ℕ
fall (pos k) = 0
fall (negsuc k) = suc k

rise_is : (e : ℤ) → up e ≡ 2 ^ rise e
rise_is (pos k) = refl
rise_is (negsuc k) = refl

fall_is : (e : ℤ) → down e ≡ 2 ^ fall e
fall_is (pos k) = refl
fall_is (negsuc k) = refl

same_exponent : (e g : ℤ) → rise e + fall g ≡ rise g + fall e → e ≡ g
same_exponent (pos a) (pos b) h = ap pos (omega arith)
same_exponent (pos a) (negsuc b) h = absurd (no a b h)
  where
    no : (a b : ℕ) → a + suc b ≡ 0 + 0 → ⊥
    no a b h = omega arith
same_exponent (negsuc a) (pos b) h = absurd (no a b h)
  where
    no : (a b : ℕ) → 0 + 0 ≡ b + suc a → ⊥
    no a b h = omega arith
same_exponent (negsuc a) (negsuc b) h = ap negsuc (omega arith)

-- m * up e / down e and n * up g / down g equal the same fraction a / c
crossed : (x y a c p q : ℕ) → 0 < c → x * c ≡ a * p → y * c ≡ a * q → x * q ≡ y * p
crossed x y a c p q C h k =
    eq_of_mul-eq-mul_right c C (x * q) (y * p)
    (mul_right_comm x q c ∙ ap (λ (z : ℕ). z * q) h ∙ mul_right_comm a p q ∙ ap (λ (z : ℕ). z * p) (sym k) ∙ mul_right_comm y c p)

pub value_unique : (x y : Float) (s : Bool) (a c : ℕ) → 0 < a → 0 < c → T (fits binary64 x) → T (fits binary64 y) → HasValue x s a c
    → HasValue y s a c → x ≡ y
value_unique nan y s a c A C p q v w = absurd v
value_unique (inf t) y s a c A C p q v w = absurd v
value_unique (fin t m e) nan s a c A C p q v w = absurd w
value_unique (fin t m e) (inf u) s a c A C p q v w = absurd w
value_unique (fin t zero e) (fin u n g) s a c A C p q v w = absurd (no_zero (up e) c a (down e) A (down_pos e) v.1)
value_unique (fin t (suc m) e) (fin u zero g) s a c A C p q v w = absurd (no_zero (up g) c a (down g) A (down_pos g) w.1)
value_unique (fin t (suc m) e) (fin u (suc n) g) s a c A C p q v w =
    let x : suc m * up e * down g ≡ suc n * up g * down e = crossed (suc m * up e) (suc n * up g) a c (down e) (down g) C v.1 w.1 in
    let z : suc m * 2 ^ (rise e + fall g) ≡ suc n * 2 ^ (rise g + fall e) =
    ap (λ (z : ℕ). suc m * z) (pow-add 2 (rise e) (fall g) ∙ ap (λ (z : ℕ). z * 2 ^ fall g) (sym (rise_is e)) ∙ ap (λ (z : ℕ). up e * z)
    (sym (fall_is g)))
    ∙ sym (mul_assoc (suc m) (up e) (down g)) ∙ x ∙ mul_assoc (suc n) (up g) (down e)
    ∙ ap (λ (z : ℕ). suc n * z) (ap (λ (z : ℕ). up g * z) (fall_is e) ∙ ap (λ (z : ℕ). z * 2 ^ fall e) (rise_is g) ∙ sym
    (pow-add 2 (rise g) (fall e))) in
    let r = odd_pow (suc m) (suc n) (rise e + fall g) (rise g + fall e) (is_odd t m e p) (is_odd u n g q) z in
    λ i. fin ((v.0 ∙ sym w.0) i) (r.0 i) (same_exponent e g r.1 i)

-- one unit, one count of units
abbrev pub At : ℕ → ℕ → ℕ → Type 0
At n u q = (2 ^ 52 * u ≤ n) × (n < 2 ^ 53 * u) × (distance n (q * u) * 2 ≤ u) × (distance n (q * u) * 2 ≡ u → q % 2 ≡ 0)

sub_mul : (a b c : ℕ) → (a - b) * c ≡ a * c - b * c
sub_mul a b c = mul_comm (a - b) c ∙ mul-sub c a b ∙ ap (λ (z : ℕ). z - c * b) (mul_comm c a) ∙ ap (λ (z : ℕ). a * c - z) (mul_comm c b)

pub distance_mul : (a b c : ℕ) → distance (a * c) (b * c) ≡ distance a b * c
distance_mul a b c =
    ap (λ (z : ℕ). z + (b * c - a * c)) (sym (sub_mul a b c)) ∙ ap (λ (z : ℕ). (a - b) * c + z) (sym (sub_mul b a c)) ∙ sym
    (add-mul (a - b) (b - a) c)

-- both sides times c
at_scale : (n u q c : ℕ) → 0 < c → At n u q → At (n * c) (u * c) q
at_scale n u q c C h =
    let d : distance (n * c) (q * (u * c)) ≡ distance n (q * u) * c = ap (λ (z : ℕ). distance (n * c) z) (sym (mul_assoc q u c)) ∙ distance_mul n
    (q * u) c in
    let e : distance (n * c) (q * (u * c)) * 2 ≡ distance n (q * u) * 2 * c = ap (λ (z : ℕ). z * 2) d ∙ mul_right_comm (distance n (q * u)) c 2 in (
      le_trans (le_of_eq (sym (mul_assoc (2 ^ 52) u c))) (mul-le-mul_right c h.0),
      lt_of_lt_of_le (mul-lt-mul_of_pos_right h.1 C) (le_of_eq (mul_assoc (2 ^ 53) u c)),
      le_trans (le_of_eq e) (mul-le-mul_right c h.2),
      λ k. h.3 (eq_of_mul-eq-mul_right c C (distance n (q * u) * 2) u (sym e ∙ k)),
    )

close : (n u q r a b : ℕ) → q < r → a ≡ q * u → b ≡ r * u → (q + 1) * u ≤ b → distance n a * 2 ≤ u → distance n b * 2 ≤ u → a + u ≤ b
    → (b ≡ a + u) × (distance n a * 2 ≡ u) × (distance n b * 2 ≡ u)
close n u q r a b l e f g h k j = (omega arith, omega arith, omega arith)

parity : (q : ℕ) → q % 2 ≡ 0 → (q + 1) % 2 ≡ 0 → ⊥
parity q h k = omega arith

apart : (n u q r : ℕ) → 0 < u → q < r → Near n u q → Near n u r → ⊥
apart n u q r P l h k =
    let g : (q + 1) * u ≤ r * u = mul-le-mul_right u (omega arith) in
    let s : (q + 1) * u ≡ q * u + u = add-mul q 1 u ∙ ap (λ (z : ℕ). q * u + z) (one-mul u) in
    let t = close n u q r (q * u) (r * u) l refl refl g h.0 k.0 (le_trans (le_of_eq (sym s)) g) in
    let e : r ≡ q + 1 = eq_of_mul-eq-mul_right u P r (q + 1) (t.0 ∙ sym s) in
    parity q (h.1 t.1) (subst (λ (z : ℕ). z % 2 ≡ 0) e (k.1 t.2))

near_unique : (n u q r : ℕ) → 0 < u → Near n u q → Near n u r → q ≡ r
near_unique n u q r P h k = go (ltb q r) refl (ltb r q) refl
  where
    go : (a : Bool) → ltb q r ≡ a → (b : Bool) → ltb r q ≡ b → q ≡ r
    go true e b f = absurd (apart n u q r P (ltb-true q r e) h k)
    go false e true f = absurd (apart n u r q P (ltb-true r q f) k h)
    go false e false f = omega (arith, ltb-false q r e, ltb-false r q f)

-- a fraction with 53 digits before the point in units of 2 ^ i has fewer in units of a larger power
one_unit : (n den i j q r : ℕ) → 0 < den → i < j → At n (2 ^ i * den) q → At n (2 ^ j * den) r → ⊥
one_unit n den i j q r D l h k =
    let a : 2 ^ 53 * (2 ^ i * den) ≡ 2 ^ 52 * (2 ^ suc i * den) =
    mul_assoc (2 ^ 52) 2 (2 ^ i * den) ∙ ap (λ (z : ℕ). 2 ^ 52 * z) (sym (mul_assoc 2 (2 ^ i) den) ∙ ap (λ (z : ℕ). z * den) (sym (pow-succ' 2 i))) in
    let b : 2 ^ 52 * (2 ^ suc i * den) ≤ 2 ^ 52 * (2 ^ j * den) = mul-le-mul_left (2 ^ 52) (mul-le-mul_right den (pow_mono l)) in
    lt_irrefl n (lt_of_lt_of_le h.1 (le_trans (le_of_eq a) (le_trans b k.0)))

at_unique : (n den i j q r : ℕ) → 0 < den → At n (2 ^ i * den) q → At n (2 ^ j * den) r → (i ≡ j) × (q ≡ r)
at_unique n den i j q r D h k = go (ltb i j) refl (ltb j i) refl
  where
    go : (a : Bool) → ltb i j ≡ a → (b : Bool) → ltb j i ≡ b → (i ≡ j) × (q ≡ r)
    go true e b f = absurd (one_unit n den i j q r D (ltb-true i j e) h k)
    go false e true f = absurd (one_unit n den j i r q D (ltb-true j i f) k h)
    go false e false f =
        let z : i ≡ j = omega (arith, ltb-false i j e, ltb-false j i f) in
        (z, near_unique n (2 ^ j * den) q r (mul-pos (pow_pos j) D) (subst (λ (x : ℕ). Near n (2 ^ x * den) q) z (h.2, h.3)) (k.2, k.3))

pub raised : (num den k l q j : ℕ) → At (num * 2 ^ l) (2 ^ k * den) q → At (num * 2 ^ (l + j)) (2 ^ (k + j) * den) q
raised num den k l q j h =
    subst (λ (z : ℕ). At z (2 ^ (k + j) * den) q) (mul_assoc num (2 ^ l) (2 ^ j) ∙ ap (λ (z : ℕ). num * z) (sym (pow-add 2 l j)))
    (subst (λ (z : ℕ). At (num * 2 ^ l * 2 ^ j) z q) (mul_right_comm (2 ^ k) den (2 ^ j) ∙ ap (λ (z : ℕ). z * den) (sym (pow-add 2 k j)))
    (at_scale (num * 2 ^ l) (2 ^ k * den) q (2 ^ j) (pow_pos j) h))

pub at_of : {s : Bool} {num den : ℕ} {x : Float} (r : Rounded s num den x) → At (num * 2 ^ r.l) (2 ^ r.k * den) r.q
at_of r = (r.least, r.below, r.near, r.tie)

-- at half a unit or less from 2 ^ 52 units or more there is no zero
some : (n u q : ℕ) → 0 < u → At n u q → 0 < q
some n u zero P h = absurd (no n u (zero * u) (zero-mul u) P h.0 h.2)
  where
    no : (n u z : ℕ) → z ≡ 0 → 0 < u → 2 ^ 52 * u ≤ n → distance n z * 2 ≤ u → ⊥
    no n u z e P a b = omega arith
some n u (suc q) P h = zero-lt-suc q

revalue : (x : Float) (s : Bool) (a c b d : ℕ) → 0 < c → a * d ≡ b * c → HasValue x s a c → HasValue x s b d
revalue nan s a c b d C e v = v
revalue (inf t) s a c b d C e v = v
revalue (fin t m g) s a c b d C e v = (
  v.0,
  eq_of_mul-eq-mul_right c C (m * up g * d) (b * down g)
      (mul_right_comm (m * up g) d c ∙ ap (λ (z : ℕ). z * d) v.1 ∙ mul_right_comm a (down g) d ∙ ap (λ (z : ℕ). z * down g) e ∙ mul_right_comm b c
      (down g)),
)

rounded_only : (s : Bool) (num den : ℕ) (x y : Float) → 0 < den → T (fits binary64 x) → T (fits binary64 y) → Rounded s num den x
    → Rounded s num den y → x ≡ y
rounded_only s num den x y D p q a b =
    let h = raised num den a.k a.l a.q b.l (at_of a) in
    let g = raised num den b.k b.l b.q a.l (at_of b) in
    let z = at_unique (num * 2 ^ (a.l + b.l)) den (a.k + b.l) (b.k + a.l) a.q b.q D h
    (subst (λ (i : ℕ). At (num * 2 ^ i) (2 ^ (b.k + a.l) * den) b.q) (add_comm b.l a.l) g) in
    let e : b.q * 2 ^ b.k * 2 ^ a.l ≡ a.q * 2 ^ a.k * 2 ^ b.l =
    mul_assoc b.q (2 ^ b.k) (2 ^ a.l) ∙ ap (λ (i : ℕ). b.q * i) (sym (pow-add 2 b.k a.l))
    ∙ ap (λ (i : ℕ). i * 2 ^ (b.k + a.l)) (sym z.1) ∙ ap (λ (i : ℕ). a.q * 2 ^ i) (sym z.0)
    ∙ ap (λ (i : ℕ). a.q * i) (pow-add 2 a.k b.l) ∙ sym (mul_assoc a.q (2 ^ a.k) (2 ^ b.l)) in
    value_unique x y s (a.q * 2 ^ a.k) (2 ^ a.l)
    (mul-pos (some (num * 2 ^ a.l) (2 ^ a.k * den) a.q (mul-pos (pow_pos a.k) D) (at_of a)) (pow_pos a.k)) (pow_pos a.l) p q
    a.value
    (revalue y s (b.q * 2 ^ b.k) (2 ^ b.l) (a.q * 2 ^ a.k) (2 ^ a.l) (pow_pos b.l) e b.value)

pub only : (s : Bool) (num den : ℕ) (x y : Float) → 0 < den → T (fits binary64 x) → T (fits binary64 y) → Nearest s num den x → Nearest s num den y
    → x ≡ y
only s zero den x y D p q a b = a ∙ sym b
only s (suc n) den x y D p q a b = rounded_only s (suc n) den x y D p q a b
