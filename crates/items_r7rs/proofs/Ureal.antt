-- The <ureal 10> after a sign is an integer, a ratio or a decimal to crate numbers' grammar.
use Prim.Native.Nat.{ℕ, ◌+◌, ◌<◌}
use mathlib.Core.Path.{◌≡◌, refl, sym, ◌∙◌}
use mathlib.Core.Bool.{Bool, true, false, not}
use mathlib.Core.List.{List, [], ◌∷◌, ◌++◌, append-nil}
use lib.ListN.{length, drop, length-append, drop_of_length-le}
use lib.Seq.{drop-drop, take_at, drop_at}
use lib.Dec.{eqb, ltb}
use native.Mathlib.Omega.{arith}
use native.Mathlib.Nat.{le_refl, add-zero, zero-add}
use borrow.Author.Tests.{lt-ltb, le-ltb, eq-eqb, ne_eqb}
use Rattle.std.specs.Prelude.{if◌then◌else◌, Some, None, Option}
use Rattle.laws.specs.Quoted.{codes, code, one_of, within}
use Rattle.laws.specs.Texts.{span, starts}
use Rattle.laws.proofs.Choice.{by_bool}
use Rattle.digits.specs.declared.Span.{Span}
use Rattle.digits.specs.declared.Int.{Int}
use Rattle.digits.specs.declared.Int.TheVariants.{Small, Big}
use Rattle.digits.specs.Digits.{digit_of, uinteger, value, whole_of, integer}
use Rattle.digits.specs.Digits as digit
use Rattle.numbers.specs.declared.Exponent.{Exponent}
use Rattle.numbers.specs.declared.Real.{Real}
use Rattle.numbers.specs.declared.Real.TheVariants.{Integer, Rational}
use Rattle.numbers.specs.declared.Suffix as declared
use Rattle.numbers.specs.declared.Suffix.TheVariants as suffixes
use Rattle.numbers.specs.Grammar.{zero_int, zero_real}
use Rattle.numbers.specs.Reals.{exponent_marker, exponent, suffix, point_of, dotted, undotted, decimal, integral_of, rational_of, denominator, exact, or_else, ureal}
use Rattle.items_r7rs.specs.Escape.{digits}
use Rattle.items_r7rs.specs.Number.{Digit, Sign, no_sign, Suffix, no_suffix, e_suffix, Decimal, scaled, dot_first, dot_inside, Ureal, is_integer, is_ratio, is_decimal}
use Rattle.items_r7rs.specs.Repeated.{Many, done}
use Rattle.items_r7rs.specs.Repeated as repeated
use Rattle.items_r7rs.proofs.Classes.{at_one_of}
use Rattle.items_r7rs.proofs.Reals.{many_map, some_many, some_length, span_on, span-all, shape, signed_text}

-- a real number, whose denominator is not zero
pub record IsReal (m : Option Real) : Type 0 where
  pub real_is : Real
  pub gives : m ≡ Some real_is
  pub proper : zero_real real_is ≡ false

-- ---- digits

digit_ten : (c : ℕ) → Digit c → ltb (digit_of c) 10 ≡ true
unfolding digit_of within
digit_ten c h = at_one_of (λ k. ltb (digit_of k) 10) true digits c refl h

module _ {d : List ℕ} (m : Many Digit d) where
  all_ten : Many (λ c. ltb (digit_of c) 10 ≡ true) d
  all_ten = many_map digit_ten m

  digits-all : digit.digits 10 d ≡ length d
  digits-all = span-all (λ c. ltb (digit_of c) 10) all_ten

  digits_then_other : (c : ℕ) (r : List ℕ) → ltb (digit_of c) 10 ≡ false → digit.digits 10 (d ++ (c ∷ r)) ≡ length d
  unfolding span
  digits_then_other c r h = span_on (λ x. ltb (digit_of x) 10) (c ∷ r) all_ten ∙ rw h (add-zero (length d))

uinteger_yes : {d : List ℕ} → repeated.Some Digit d → uinteger 10 d ≡ true
unfolding uinteger
uinteger_yes {d} m = rw (lt-ltb 0 (length d) (some_length m), digits-all (some_many m)) (eq-eqb (length d) (length d) refl)

-- the integer that digits from the place p on are: its value by place, where that fits
abbrev pub integer_of : Bool → ℕ → List ℕ → Int
integer_of b p d = if ltb (value 10 0 d) (digit.top b) then Small (digit.signed b (value 10 0 d)) else Big b (digit.span_at p (length d))

whole_of_lem : (b : Bool) (p : ℕ) {d : List ℕ} → repeated.Some Digit d → whole_of 10 b p d ≡ Some (integer_of b p d)
unfolding whole_of
whole_of_lem b p m = rw (uinteger_yes m)

no_slash : {d : List ℕ} → Many Digit d → Many (λ c. not (eqb c (code "/")) ≡ true) d
no_slash m = many_map (λ c h. at_one_of (λ k. not (eqb k (code "/"))) true digits c refl h) m

-- ---- <uinteger 10>

module _ (b : Bool) (p : ℕ) {d : List ℕ} (m : repeated.Some Digit d) where
  no_decimal_lem : decimal b p d ≡ None
  unfolding decimal starts suffix undotted
  no_decimal_lem = rw (digits-all (some_many m), drop_of_length-le d (le_refl (length d)))

  integer_exact : exact 10 b p d ≡ Some (Integer (integer_of b p d))
  unfolding exact integral_of
  integer_exact =
      rw (span-all (λ c. not (eqb c (code "/"))) (no_slash (some_many m)), le-ltb (length d) (length d) (le_refl (length d))) (rw (whole_of_lem b p m))

  pub integer_ureal : ureal 10 b p d ≡ Some (Integer (integer_of b p d))
  unfolding ureal or_else
  integer_ureal = rw no_decimal_lem integer_exact

  integer_real : IsReal (ureal 10 b p d)
  unfolding zero_real
  integer_real = record { real_is = Integer (integer_of b p d); gives = integer_ureal; proper = refl }

-- ---- <uinteger 10> / <uinteger 10>

nonzero : (p : ℕ) (d : List ℕ) → eqb (value 10 0 d) 0 ≡ false → zero_int (integer_of false p d) ≡ false
unfolding zero_int digit.signed
nonzero p d h = by_bool (ltb (value 10 0 d) (digit.top false)) (λ e. rw e h) (λ e. rw e)

denominator_is : (p : ℕ) {d : List ℕ} → repeated.Some Digit d → denominator 10 p d ≡ Some (integer_of false p d)
unfolding denominator integer
denominator_is p {d} m =
    let g = signed_text no_sign (shape (is_integer m)) in
    rw (g.sign_is, g.sign-length) (rw (add-zero p) (whole_of_lem false p m))

module _ (b : Bool) (p : ℕ) (n d : List ℕ) (m : repeated.Some Digit n) (k : repeated.Some Digit d) where
  to_slash : span (λ c. not (eqb c (code "/"))) (n ++ (code "/" ∷ d)) ≡ length n
  unfolding span
  to_slash = span_on (λ c. not (eqb c (code "/"))) (code "/" ∷ d) (no_slash (some_many m)) ∙ add-zero (length n)

  slash_digits : digit.digits 10 (n ++ (code "/" ∷ d)) ≡ length n
  unfolding digit_of within
  slash_digits = digits_then_other (some_many m) (code "/") d refl

  ratio_no_decimal : decimal b p (n ++ (code "/" ∷ d)) ≡ None
  unfolding decimal starts suffix undotted exponent_marker
  ratio_no_decimal = rw (slash_digits, drop_at n (code "/" ∷ d) (length n) refl)

  after_slash : drop (length n + 1) (n ++ (code "/" ∷ d)) ≡ d
  after_slash = sym (drop-drop 1 (length n) (n ++ (code "/" ∷ d))) ∙ rw (drop_at n (code "/" ∷ d) (length n) refl)

  ratio_exact : exact 10 b p (n ++ (code "/" ∷ d)) ≡ Some (Rational (integer_of b p n) (integer_of false (p + length n + 1) d))
  unfolding exact rational_of
  ratio_exact =
      rw (to_slash, lt-ltb (length n) (length (n ++ (code "/" ∷ d))) (rw (length-append n (code "/" ∷ d)) (omega arith)))
      (rw (take_at n (code "/" ∷ d) (length n) refl, after_slash) (rw (whole_of_lem b p m, denominator_is (p + length n + 1) k)))

  ratio_real : eqb (value 10 0 d) 0 ≡ false → IsReal (ureal 10 b p (n ++ (code "/" ∷ d)))
  unfolding ureal or_else zero_real
  ratio_real z = record {
    real_is = Rational (integer_of b p n) (integer_of false (p + length n + 1) d);
    gives = rw ratio_no_decimal ratio_exact;
    proper = nonzero (p + length n + 1) d z;
  }

-- ---- <suffix>

marker_other : (c : ℕ) → one_of (codes "eE") c ≡ true → ltb (digit_of c) 10 ≡ false
unfolding digit_of within
marker_other c h = at_one_of (λ k. ltb (digit_of k) 10) false (codes "eE") c refl h

-- an exponent; and that, or none
data Scales : declared.Suffix → Type 0 where
  marked : (e : Exponent) → Scales (suffixes.Marked e)

data Good : declared.Suffix → Type 0 where
  none_there : Good suffixes.Empty
  scales : {x : declared.Suffix} → Scales x → Good x

exponent_scales : (p : ℕ) {s d : List ℕ} {b : Bool} → Sign s b → repeated.Some Digit d → Scales (exponent p (s ++ d))
unfolding exponent
exponent_scales p {s} g m =
    let x = signed_text g (shape (is_integer m)) in
    rw (x.sign-length, x.after_sign, uinteger_yes m) (marked _)

marker_scales : (p c : ℕ) {s d : List ℕ} {b : Bool} → one_of (codes "eE") c ≡ true → Sign s b → repeated.Some Digit d → Scales (suffix p (c ∷ s ++ d))
unfolding suffix exponent_marker
marker_scales p c h g m = rw (at_one_of exponent_marker true (codes "eE") c refl h) (exponent_scales (p + 1) g m)

suffix_good : (p : ℕ) {s : List ℕ} → Suffix s → Good (suffix p s)
unfolding suffix
suffix_good p no_suffix = none_there
suffix_good p (e_suffix {c = c} s d h g m) = scales (marker_scales p c h g m)

-- digits before a suffix
digits_suffix : {d s : List ℕ} → Many Digit d → Suffix s → digit.digits 10 (d ++ s) ≡ length d
digits_suffix {d} m no_suffix = rw (append-nil d) (digits-all m)
digits_suffix m (e_suffix {c = c} s d h g k) = digits_then_other m c (s ++ d) (marker_other c h)

-- ---- <decimal 10>

scaled_real : (b : Bool) (w f : Span) {x : declared.Suffix} → Scales x → IsReal (point_of b w f x)
unfolding point_of zero_real
scaled_real b w f (marked e) = record { real_is = _; gives = refl; proper = refl }

point_real : (b : Bool) (w f : Span) {x : declared.Suffix} → Good x → IsReal (point_of b w f x)
unfolding point_of zero_real
point_real b w f none_there = record { real_is = _; gives = refl; proper = refl }
point_real b w f (scales e) = scaled_real b w f e

dotted_real : (b : Bool) (p w q : ℕ) (f s : List ℕ) → Many Digit f → Suffix s → 0 < w + length f → IsReal (dotted b p w q (f ++ s))
unfolding dotted
dotted_real b p w q f s m x h =
    rw (digits_suffix m x, ne_eqb (w + length f) 0 (λ e. omega arith), drop_at f s (length f) refl) (point_real b _ _ (suffix_good _ x))

undotted_real : (b : Bool) (p w : ℕ) {x : declared.Suffix} → 0 < w → Scales x → IsReal (undotted b p w x)
unfolding undotted
undotted_real b p w h (marked e) = rw (ne_eqb w 0 (λ z. omega arith)) (scaled_real b _ _ (marked e))

or_real : {a : Option Real} (b : Option Real) → IsReal a → IsReal (or_else a b)
unfolding or_else
or_real b r = rw r.gives record { real_is = r.real_is; gives = refl; proper = r.proper }

decimal-ureal : (b : Bool) (p : ℕ) (u : List ℕ) → IsReal (decimal b p u) → IsReal (ureal 10 b p u)
unfolding ureal
decimal-ureal b p u r = or_real (exact 10 b p u) r

-- digits, and then a dot
dot_after : (b : Bool) (p : ℕ) (d r : List ℕ) → Many Digit d → decimal b p (d ++ (code "." ∷ r)) ≡ dotted b p (length d) (p + length d + 1) r
unfolding decimal starts digit_of within
dot_after b p d r m =
    rw (digits_then_other m (code ".") r refl, drop_at d (code "." ∷ r) (length d) refl, sym (drop-drop 1 (length d) (d ++ (code "." ∷ r))))
    (rw (drop_at d (code "." ∷ r) (length d) refl))

-- digits, and then an exponent marker
marker_after : (b : Bool) (p : ℕ) (d : List ℕ) (c : ℕ) (r : List ℕ) → Many Digit d → one_of (codes "eE") c ≡ true
    → decimal b p (d ++ (c ∷ r)) ≡ undotted b p (length d) (suffix (p + length d) (c ∷ r))
unfolding decimal starts
marker_after b p d c r m h =
    rw (digits_then_other m c r (marker_other c h), drop_at d (c ∷ r) (length d) refl, at_one_of (λ k. eqb k (code ".")) false (codes "eE") c refl h)

module _ (b : Bool) (p : ℕ) where
  decimal_real : {u : List ℕ} → Decimal u → IsReal (ureal 10 b p u)
  decimal_real (scaled d s m no_suffix) = rw (append-nil d) (integer_real b p m)
  decimal_real (scaled d s m (e_suffix {c = c} g k h x n)) =
      decimal-ureal b p (d ++ (c ∷ g ++ k))
      (rw (marker_after b p d c (g ++ k) (some_many m) h) (undotted_real b p (length d) (some_length m) (marker_scales (p + length d) c h x n)))
  decimal_real (dot_first f s m x) =
      decimal-ureal b p (code "." ∷ f ++ s)
      (rw (dot_after b p [] (f ++ s) done) (dotted_real b p 0 _ f s (some_many m) x (rw (zero-add (length f)) (some_length m))))
  decimal_real (dot_inside d f s m n x) =
      decimal-ureal b p (d ++ (code "." ∷ f ++ s))
      (rw (dot_after b p d (f ++ s) (some_many m)) (dotted_real b p (length d) _ f s n x (omega (arith, some_length m))))

  -- every <ureal 10>
  pub ureal_real : {u : List ℕ} → Ureal u → IsReal (ureal 10 b p u)
  ureal_real (is_integer m) = integer_real b p m
  ureal_real (is_ratio n d m k z) = ratio_real b p n d m k z
  ureal_real (is_decimal x) = decimal_real x
