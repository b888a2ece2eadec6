-- Products and quotients of floats that are known by their values, the powers of ten, and the one rounding of a coordinate.
use Rattle.std.proofs.Common.{◌≡◌, ℕ, zero, suc, ◌+◌, ◌*◌, ◌^◌, ◌<◌, ◌≤◌, Bool, true, false, cond, eqb, ltb, pos, negsuc, neg_ℤ, sym, refl, ap, ◌∙◌, subst, lt_irrefl, zero-lt-suc, mul_comm, mul-pos, one-mul, pow-suc, zero-mul, mul-one, arith, lit<, ne_eqb, le-leb}
use native.Mathlib.Nat.{mul-mul-mul_comm}
use lib.Ieee.{Float, nan, inf, fin, Format, binary64, unlike, up, down, odd, units, round, low, prec, emax, neg, mul, div}
use lib.Ieee.Fits.{up_pos, down_pos, round_is}
use lib.Ieee.Exact.{HasValue}
use lib.Ieee.Back.{round_whole}
use lib.Ieee.Scale.{round_same}
use borrow.Author.Tests.{lt-leb}
use Rattle.coordinates.specs.Answers.{float}
use Rattle.coordinates.specs.Coordinate.{scaled, outside}
use Rattle.coordinates.specs.Inner.{ten_to}

mul_value : (f : Format) (x y : Float) (s t : Bool) (a c b d : ℕ) → 0 < c → 0 < d → HasValue x s a c → HasValue y t b d
    → mul f x y ≡ round f (unlike s t) (a * b) (c * d)
unfolding mul
mul_value f nan y s t a c b d C D h k = absurd h
mul_value f (inf z) y s t a c b d C D h k = absurd h
mul_value f (fin z m e) nan s t a c b d C D h k = absurd k
mul_value f (fin z m e) (inf w) s t a c b d C D h k = absurd k
mul_value f (fin z m e) (fin w n j) s t a c b d C D h k =
    ap (λ (v : Bool). round f (unlike v w) (m * up e * (n * up j)) (down e * down j)) h.0
    ∙ ap (λ (v : Bool). round f (unlike s v) (m * up e * (n * up j)) (down e * down j)) k.0
    ∙ round_same f (unlike s t) (m * up e * (n * up j)) (down e * down j) (a * b) (c * d) (mul-pos (down_pos e) (down_pos j)) (mul-pos C D)
    (mul-mul-mul_comm (m * up e) (n * up j) c d ∙ ap (λ (v : ℕ). v * (n * up j * d)) h.1 ∙ ap (λ (v : ℕ). a * down e * v) k.1
    ∙ mul-mul-mul_comm a (down e) b (down j))

pub no_zero : (u d b v : ℕ) → 0 < b → 0 < v → 0 * u * d ≡ b * v → ⊥
no_zero u d b v B P e = lt_irrefl 0 (subst (λ (z : ℕ). 0 < z) (sym e ∙ ap (λ (z : ℕ). z * d) (zero-mul u) ∙ zero-mul d) (mul-pos B P))

cross : (x c a y z d b w : ℕ) → x * c ≡ a * y → z * d ≡ b * w → x * w * (c * b) ≡ a * d * (z * y)
cross x c a y z d b w h k =
    mul-mul-mul_comm x w c b
    ∙ ap (λ (v : ℕ). v * (w * b)) h
    ∙ ap (λ (v : ℕ). a * y * v) (mul_comm w b ∙ sym k ∙ mul_comm z d)
    ∙ mul-mul-mul_comm a y d z
    ∙ ap (λ (v : ℕ). a * d * v) (mul_comm y z)

above : (n : ℕ) → suc n ≡ 0 → ⊥
above n g = omega arith

div_value : (f : Format) (x y : Float) (s t : Bool) (a c b d : ℕ) → 0 < c → 0 < b → HasValue x s a c → HasValue y t b d
    → div f x y ≡ round f (unlike s t) (a * d) (c * b)
unfolding div
div_value f nan y s t a c b d C B h k = absurd h
div_value f (inf z) y s t a c b d C B h k = absurd h
div_value f (fin z m e) nan s t a c b d C B h k = absurd k
div_value f (fin z m e) (inf w) s t a c b d C B h k = absurd k
div_value f (fin z m e) (fin w zero j) s t a c b d C B h k = absurd (no_zero (up j) d b (down j) B (down_pos j) k.1)
div_value f (fin z m e) (fin w (suc n) j) s t a c b d C B h k =
    ap (λ (v : Bool). cond v (cond (eqb m 0) nan (inf (unlike z w))) (round f (unlike z w) (m * up e * down j) (suc n * up j * down e)))
    (ne_eqb (suc n) 0 (λ g. above n g))
    ∙ ap (λ (v : Bool). round f (unlike v w) (m * up e * down j) (suc n * up j * down e)) h.0
    ∙ ap (λ (v : Bool). round f (unlike s v) (m * up e * down j) (suc n * up j * down e)) k.0
    ∙ round_same f (unlike s t) (m * up e * down j) (suc n * up j * down e) (a * d) (c * b)
    (mul-pos (mul-pos (zero-lt-suc n) (up_pos j)) (down_pos e)) (mul-pos C B)
    (cross (m * up e) c a (down e) (suc n * up j) d b (down j) h.1 k.1)

-- the sign
odd-neg : (d q k l : ℕ) → neg (odd d false q k l) ≡ odd d true q k l
unfolding neg odd
odd-neg d zero k l = refl
odd-neg d (suc q) k l = refl

cond-neg : (b : Bool) (x y : Float) → neg (cond b x y) ≡ cond b (neg x) (neg y)
cond-neg true x y = refl
cond-neg false x y = refl

units-neg : (f : Format) (q k : ℕ) → neg (units f false q k) ≡ units f true q k
unfolding units neg
units-neg f q k =
    let t = ltb (q * 2 ^ k) (2 ^ (low f + suc (emax f))) in
    cond-neg t (odd (suc (prec f)) false q k (low f)) (inf false) ∙ ap (λ (x : Float). cond t x (inf true)) (odd-neg (suc (prec f)) q k (low f))

pub neg-round : (f : Format) (n d : ℕ) → neg (round f false n d) ≡ round f true n d
neg-round f n d = ap neg (round_is f false n d) ∙ units-neg f _ _ ∙ sym (round_is f true n d)

-- the powers of ten
pow_mul : (k : ℕ) → 5 ^ k * 2 ^ k ≡ 10 ^ k
pow_mul zero = refl
pow_mul (suc k) =
    ap (λ (v : ℕ). v * 2 ^ suc k) (pow-suc 5 k)
    ∙ ap (λ (v : ℕ). 5 ^ k * 5 * v) (pow-suc 2 k)
    ∙ mul-mul-mul_comm (5 ^ k) 5 (2 ^ k) 2
    ∙ ap (λ (v : ℕ). v * 10) (pow_mul k)
    ∙ sym (pow-suc 10 k)

-- a power of ten is exact
pub ten_value : (k : ℕ) → HasValue (ten_to k) false (10 ^ k) 1
unfolding ten_to
ten_value k = (refl, ap (λ (v : ℕ). v * 1) (pow_mul k))

pub ten_pos : (k : ℕ) → 0 < 10 ^ k
ten_pos zero = lit< tt
ten_pos (suc k) = subst (λ (v : ℕ). 0 < v) (sym (pow-suc 10 k)) (mul-pos (ten_pos k) (lit< tt))

-- one rounding
unlike-false : (s : Bool) → unlike s false ≡ s
unlike-false true = refl
unlike-false false = refl

module _ (s : Bool) (m k : ℕ) (h : m ≤ 2 ^ 53) where
  pub product : mul binary64 (round binary64 s m 1) (ten_to k) ≡ round binary64 s (m * 10 ^ k) 1
  product =
      mul_value binary64 (round binary64 s m 1) (ten_to k) s false m 1 (10 ^ k) 1 (lit< tt) (lit< tt) (round_whole binary64 s m h) (ten_value k)
      ∙ ap (λ (v : Bool). round binary64 v (m * 10 ^ k) 1) (unlike-false s)

  pub quotient : div binary64 (round binary64 s m 1) (ten_to k) ≡ round binary64 s m (10 ^ k)
  quotient =
      div_value binary64 (round binary64 s m 1) (ten_to k) s false m 1 (10 ^ k) 1 (lit< tt) (ten_pos k) (round_whole binary64 s m h) (ten_value k)
      ∙ ap (λ (v : Bool). round binary64 v (m * 1) (1 * 10 ^ k)) (unlike-false s)
      ∙ ap (λ (v : ℕ). round binary64 s v (1 * 10 ^ k)) (mul-one m)
      ∙ ap (λ (v : ℕ). round binary64 s m v) (one-mul (10 ^ k))

  pub up_in : k ≤ 22 → float (mul binary64 (round binary64 s m 1) (ten_to k)) ≡ scaled s m (pos k)
  unfolding scaled
  up_in l = simp (le-leb _ _ l) (ap float product)

  pub down_in : k ≤ 22 → float (div binary64 (round binary64 s m 1) (ten_to k)) ≡ scaled s m (neg_ℤ (pos k))
  down_in l = go k l quotient
    where
      go : (k : ℕ) → k ≤ 22 → div binary64 (round binary64 s m 1) (ten_to k) ≡ round binary64 s m (10 ^ k)
          → float (div binary64 (round binary64 s m 1) (ten_to k)) ≡ scaled s m (neg_ℤ (pos k))
      go zero l q = ap float (q ∙ ap (λ (v : ℕ). round binary64 s v 1) (sym (mul-one m))) ∙ open0
        where
          open0 : float (round binary64 s (m * 1) 1) ≡ scaled s m (pos 0)
          open0 = unfold scaled in refl
      go (suc j) l q = ap float q ∙ open1 j l
        where
          open1 : (j : ℕ) → suc j ≤ 22 → float (round binary64 s m (10 ^ suc j)) ≡ scaled s m (negsuc j)
          open1 j l = unfold scaled in (simp (le-leb _ _ l))

pub up_out : (s : Bool) (m k : ℕ) → 22 < k → outside ≡ scaled s m (pos k)
unfolding scaled
up_out s m k l = simp (lt-leb _ _ l)

pub down_out : (s : Bool) (m k : ℕ) → 22 < k → outside ≡ scaled s m (neg_ℤ (pos k))
unfolding scaled
down_out s m zero l = absurd (none l)
  where
    none : 22 < 0 → ⊥
    none h = omega arith
down_out s m (suc j) l = simp (lt-leb _ _ l)
