-- What a value of the coordinate call means, without a word of IEEE 754; and that the call gives each text its value.
use Rattle.std.proofs.Common.{◌≡◌, ℕ, suc, ◌<◌, ◌≤◌, Bool, true, T, ltb, leb, List, length, ℤ, pos, negsuc, refl, ap, subst, lit<, le-ltb, le-leb, leb-true, None, Option, Some}
use lib.Ieee.{Float, binary64, round, fits}
use lib.Ieee.Fits.{round-fits}
use Rattle.laws.proofs.Choice.{if_is, impossible}
use Rattle.refusal.specs.Refusals.{limit}
use Rattle.chars.specs.Utf8.{first_bad}
use Rattle.numbers.specs.declared.Point.{Point}
use Rattle.numbers.specs.Reals.{one_decimal}
use Rattle.coordinates.specs.Answers.{Answer, float, refused}
use Rattle.coordinates.specs.Coordinate.{all_digits, scale, most_digits, most_scale, numerator, denominator, in_range, scaled, outside, of_point, of_decimal, checked, judged, coordinate}
use Rattle.coordinates.specs.Nearest.{Nearest}
use Rattle.coordinates.specs.Means.{Means}
use Rattle.coordinates.proofs.Floats.{ten_pos}
use Rattle.coordinates.proofs.Rounding.{up_nearest, down_nearest}
use Rattle.coordinates.proofs.OneAnswer.{only}

scaled_near : (neg : Bool) (m : ℕ) (t : ℤ) → m ≤ most_digits → in_range t ≡ true
    → Nearest neg (numerator m t) (denominator t) (round binary64 neg (numerator m t) (denominator t))
scaled_near neg m (pos k) h r = up_nearest neg m k h (leb-true k most_scale r)
scaled_near neg m (negsuc k) h r = down_nearest neg m (suc k) h (leb-true (suc k) most_scale r)

abbrev MeansIf : List ℕ → Answer → Type 0
MeansIf s (float x) = Means s x
MeansIf s (refused n p) = Unit {0}

point_means : (s : List ℕ) (p : Point) → one_decimal s ≡ Some p → MeansIf s (of_point s p)
unfolding of_point scaled
point_means s p e =
    if_is (MeansIf s) (leb (all_digits s p) most_digits) (λ d.
    if_is (MeansIf s) (in_range (scale s p)) (λ r.
    record {
      point = p;
      decimal = e;
      digits = leb-true _ _ d;
      range = r;
      nearest = scaled_near p.negative (all_digits s p) (scale s p)
          (leb-true _ _ d) r;
    }) (λ _. tt)) (λ _. tt)

text_means : (s : List ℕ) → MeansIf s (of_decimal s (one_decimal s))
text_means s = go (one_decimal s) refl
  where
    go : (a : Option Point) → one_decimal s ≡ a → MeansIf s (of_decimal s a)
    go (Some p) e = unfold of_decimal in point_means s p e
    go None e = unfold of_decimal in tt

call_means : (s : List ℕ) → MeansIf s (coordinate s)
unfolding coordinate judged
call_means s = if_is (MeansIf s) (ltb limit (length s)) (λ _. tt) (λ _. go (first_bad s))
  where
    go : (u : Option ℕ) → MeansIf s (checked u (of_decimal s (one_decimal s)))
    go None = text_means s
    go (Some p) = tt

-- the value that the call gives is the text's
pub value_means : (s : List ℕ) (x : Float) → coordinate s ≡ float x → Means s x
value_means s x e = subst (MeansIf s) e (call_means s)

den_pos : (t : ℤ) → 0 < denominator t
den_pos (pos k) = lit< tt
den_pos (negsuc k) = ten_pos (suc k)

-- and a text's value is given: no other f64 is
pub means_value : (s : List ℕ) (x : Float) → length s ≤ limit → first_bad s ≡ None → T (fits binary64 x) → Means s x → coordinate s ≡ float x
unfolding coordinate judged of_decimal of_point scaled
means_value s x l u f a =
    let m = all_digits s a.point in
    let t = scale s a.point in
    simp (le-ltb _ _ l, u, a.decimal, le-leb _ _ a.digits, a.range)
    (ap float (only a.point.negative (numerator m t) (denominator t) (round binary64 a.point.negative (numerator m t) (denominator t)) x
    (den_pos t)
    (round-fits binary64 a.point.negative (numerator m t) (denominator t)) f (scaled_near a.point.negative m t a.digits a.range)
    a.nearest))

-- a text that is not refused for its length or its bytes has a value or is outside
abbrev GivenOrOutside : Answer → Type 0
GivenOrOutside (float x) = Unit {0}
GivenOrOutside (refused n p) = refused n p ≡ outside

decimal_given : (s : List ℕ) (d : Option Point) → GivenOrOutside (of_decimal s d)
unfolding of_decimal of_point scaled
decimal_given s None = refl
decimal_given s (Some p) =
    if_is GivenOrOutside (leb (all_digits s p) most_digits) (λ _. if_is GivenOrOutside (in_range (scale s p)) (λ _. tt) (λ _. refl)) (λ _. refl)

else_outside : (a : Answer) → GivenOrOutside a → ((x : Float) → a ≡ float x → ⊥) → a ≡ outside
else_outside (float x) g n = absurd (n x refl)
else_outside (refused k p) g n = g

-- 28 exactly where no float is the text's value
pub outside_exactly : (s : List ℕ) → length s ≤ limit → first_bad s ≡ None → ((x : Float) → Means s x → ⊥) → coordinate s ≡ outside
outside_exactly s l u n = else_outside (coordinate s) whole (λ x e. n x (value_means s x e))
  where
    whole : GivenOrOutside (coordinate s)
    whole = unfold coordinate judged in (simp (le-ltb _ _ l, u) (decimal_given s (one_decimal s)))

pub means_not_outside : (s : List ℕ) (x : Float) → length s ≤ limit → first_bad s ≡ None → T (fits binary64 x) → Means s x
    → coordinate s ≡ outside → ⊥
means_not_outside s x l u f a e =
    let g = means_value s x l u f a in impossible cc
