-- A plus and a text, read as a number: what each branch of the code says. Whether something is a real does not rest on its place.
use Rattle.numbers.specs.declared.Parts.{Parts}
use Rattle.numbers.specs.declared.Real.{Real}
use Rattle.digits.specs.declared.Int.{Int}
use Prim.Native.Nat.{ℕ, suc, ◌+◌, ◌-◌, ◌≤◌, ◌<◌}
use mathlib.Core.Path.{◌≡◌, refl, sym, ap, ◌∙◌}
use mathlib.Core.Bool.{Bool, true, false, ◌&&◌, ◌||◌}
use mathlib.Core.List.{List, [], ◌∷◌}
use lib.ListN.{length, take, drop}
use lib.Dec.{eqb, ltb}
use native.Mathlib.Omega.{arith}
use borrow.Author.Tests.{lt-ltb, le-ltb}
use Rattle.std.specs.Prelude.{if◌then◌else◌, None, Option, Some}
use Rattle.laws.specs.Quoted.{code, codes}
use Rattle.laws.specs.Texts.{span, before, starts, same}
use Rattle.laws.proofs.Choice.{by_bool, impossible}
use Rattle.digits.specs.declared.Span.{Span}
use Rattle.digits.specs.Digits.{digits, sign, negative, uinteger, whole_of, integer}
use Rattle.numbers.specs.declared.Real.TheVariants.{ImpliedZero}
use Rattle.numbers.specs.declared.Suffix.{Suffix}
use Rattle.numbers.specs.declared.Suffix.TheVariants.{Empty, Marked, Bad}
use Rattle.numbers.specs.Reals.{exponent_marker, exponent, suffix, point_of, dotted, undotted, decimal, infnan, integral_of, rational_of, denominator, exact, or_else, ureal, real}
use Rattle.numbers.specs.Grammar.{just_of, complex_of, polar_of, ends_i, init, imaginary, alone_of, pair_of, to_sign, starts_e, cut, rectangular, complex}
use Rattle.numbers.specs.Grammar.{zero_parts, judged, prefix, parse_number, numeric}
use Rattle.numbers.proofs.Grammars.{init_is}
use Rattle.numbers.specs.AfterPlus.{is_real, is_parts}

-- ---- whether there is one, wherever it stands

abbrev is_int : Option Int → Bool
is_int (Some n) = true
is_int None = false

-- 0 nothing, 1 an exponent, 2 neither
abbrev sort : Suffix → ℕ
sort Empty = 0
sort (Marked e) = 1
sort Bad = 2

suffix_moved : (p q : ℕ) (s : List ℕ) → sort (suffix p s) ≡ sort (suffix q s)
unfolding suffix exponent
suffix_moved p q [] = refl
suffix_moved p q (c ∷ s) = by_bool (exponent_marker c)
    (λ e. by_bool (uinteger 10 (drop (sign s) s)) (λ f. rw (e, f)) (λ f. rw (e, f)))
    (λ e. rw e)

point_sort : (neg : Bool) (w f : Span) (x : Suffix) → is_real (point_of neg w f x) ≡ ltb (sort x) 2
unfolding point_of
point_sort neg w f Empty = refl
point_sort neg w f (Marked e) = refl
point_sort neg w f Bad = refl

undotted-sort : (neg : Bool) (p w : ℕ) (x : Suffix) → is_real (undotted neg p w x) ≡ (if eqb (sort x) 1 then (if eqb w 0 then false else true) else false)
unfolding undotted point_of
undotted-sort neg p w Empty = refl
undotted-sort neg p w Bad = refl
undotted-sort neg p w (Marked e) = by_bool (eqb w 0) (λ f. rw f) (λ f. rw f)

dotted_moved : (neg : Bool) (p q w a b : ℕ) (s : List ℕ) → is_real (dotted neg p w a s) ≡ is_real (dotted neg q w b s)
unfolding dotted
dotted_moved neg p q w a b s = by_bool (eqb (w + digits 10 s) 0)
    (λ e. rw e)
    (λ e. rw e (point_sort neg _ _ _ ∙ (ap (λ (n : ℕ). ltb n 2) (suffix_moved (a + digits 10 s) (b + digits 10 s) (drop (digits 10 s) s)) ∙ sym (point_sort neg _ _ _))))

decimal_moved : (neg : Bool) (p q : ℕ) (s : List ℕ) → is_real (decimal neg p s) ≡ is_real (decimal neg q s)
unfolding decimal
decimal_moved neg p q s = by_bool (starts (code ".") (drop (digits 10 s) s))
    (λ e. rw e (dotted_moved neg p q (digits 10 s) (p + digits 10 s + 1) (q + digits 10 s + 1) (drop (digits 10 s + 1) s)))
    (λ e. rw e (undotted-sort neg p (digits 10 s) _
    ∙ (ap (λ (n : ℕ). if eqb n 1 then (if eqb (digits 10 s) 0 then false else true) else false) (suffix_moved (p + digits 10 s) (q + digits 10 s) (drop (digits 10 s) s))
    ∙ sym (undotted-sort neg q (digits 10 s) _))))

whole_moved : (R : ℕ) (neg : Bool) (p q : ℕ) (s : List ℕ) → is_int (whole_of R neg p s) ≡ is_int (whole_of R neg q s)
unfolding whole_of
whole_moved R neg p q s = by_bool (uinteger R s) (λ e. rw e) (λ e. rw e)

integral_int : (n : Option Int) → is_real (integral_of n) ≡ is_int n
unfolding integral_of
integral_int (Some n) = refl
integral_int None = refl

rational_int : (n d : Option Int) → is_real (rational_of n d) ≡ (is_int n && is_int d)
unfolding rational_of
rational_int (Some n) (Some d) = refl
rational_int (Some n) None = refl
rational_int None d = refl

exact_moved : (R : ℕ) (neg : Bool) (p q : ℕ) (s : List ℕ) → is_real (exact R neg p s) ≡ is_real (exact R neg q s)
unfolding exact denominator integer
exact_moved R neg p q s = by_bool (ltb (before (code "/") s) (length s))
    (λ e. rw e (rational_int _ _ ∙ (rw (
      whole_moved R neg p q (take (before (code "/") s) s),
      whole_moved R (negative (drop (before (code "/") s + 1) s)) (p + before (code "/") s + 1 + sign (drop (before (code "/") s + 1) s))
          (q + before (code "/") s + 1 + sign (drop (before (code "/") s + 1) s)) (drop (sign (drop (before (code "/") s + 1) s)) (drop (before (code "/") s + 1) s)),
    ) (sym (rational_int _ _)))))
    (λ e. rw e (integral_int _ ∙ (whole_moved R neg p q s ∙ sym (integral_int _))))

else_real : (a b : Option Real) → is_real (or_else a b) ≡ (is_real a || is_real b)
unfolding or_else
else_real (Some r) b = refl
else_real None b = refl

pub ureal_moved : (neg : Bool) (p q : ℕ) (s : List ℕ) → is_real (ureal 10 neg p s) ≡ is_real (ureal 10 neg q s)
unfolding ureal
ureal_moved neg p q s = else_real _ _ ∙ (rw (decimal_moved neg p q s, exact_moved 10 neg p q s) (sym (else_real _ _)))

pub real_moved : (p q : ℕ) (s : List ℕ) → is_real (real 10 p s) ≡ is_real (real 10 q s)
unfolding real
real_moved p q s = else_real _ _ ∙ (rw (ureal_moved (negative s) (p + sign s) (q + sign s) (drop (sign s) s)) (sym (else_real _ _)))

pub imaginary_moved : (p q : ℕ) (s : List ℕ) → is_real (imaginary 10 p s) ≡ is_real (imaginary 10 q s)
unfolding imaginary
imaginary_moved p q s = by_bool (same s (codes "+"))
    (λ e. rw e)
    (λ e. by_bool (same s (codes "-")) (λ f. rw (e, f)) (λ f. rw (e, f) (real_moved p q s)))

-- ---- parts

pub just_real : (a : Option Real) → is_parts (just_of a) ≡ is_real a
unfolding just_of
just_real (Some x) = refl
just_real None = refl

pub complex_real : (a b : Option Real) → is_parts (complex_of a b) ≡ (is_real a && is_real b)
unfolding complex_of
complex_real (Some x) (Some y) = refl
complex_real (Some x) None = refl
complex_real None b = refl

pub polar_real : (a b : Option Real) → is_parts (polar_of a b) ≡ (is_real a && is_real b)
unfolding polar_of
polar_real (Some x) (Some y) = refl
polar_real (Some x) None = refl
polar_real None b = refl

numeric_parts : (m : Option Parts) → numeric (judged m) ≡ is_parts m
unfolding judged
numeric_parts (Some p) = by_bool (zero_parts p) (λ e. rw e) (λ e. rw e)
numeric_parts None = refl

-- ---- a plus and t

module _ (t : List ℕ) where
  abbrev pub joined : List ℕ
  joined = code "+" ∷ t

  pub plus_parts : numeric (parse_number joined) ≡ is_parts (complex 10 0 joined)
  unfolding parse_number prefix
  plus_parts = numeric_parts (complex 10 0 joined)

  infinite : is_real (infnan joined) ≡ (same t (codes "inf.0") || same t (codes "nan.0"))
  unfolding infnan same
  infinite = by_bool (same t (codes "inf.0"))
      (λ e. rw e)
      (λ e. by_bool (same t (codes "nan.0")) (λ f. rw (e, f)) (λ f. rw (e, f)))

  real_is : is_real (real 10 0 joined) ≡ ((same t (codes "inf.0") || same t (codes "nan.0")) || is_real (ureal 10 false 0 t))
  unfolding real sign starts
  real_is = else_real _ _ ∙ rw (infinite, ureal_moved false 1 0 t)

  pub real_infinite : true ≡ same t (codes "inf.0") → true ≡ is_real (real 10 0 joined)
  real_infinite e = rw (real_is, ← e)

  pub real_nan : false ≡ same t (codes "inf.0") → true ≡ same t (codes "nan.0") → true ≡ is_real (real 10 0 joined)
  real_nan e f = rw (real_is, ← e, ← f)

  pub real_unsigned : {x : Option Real} {r : Bool} → false ≡ same t (codes "inf.0") → false ≡ same t (codes "nan.0") → x ≡ ureal 10 false 0 t → r ≡ is_real x
      → r ≡ is_real (real 10 0 joined)
  real_unsigned e f u g = rw (real_is, ← e, ← f) (rw u at g)

  ends_plus : ends_i joined ≡ ends_i t
  unfolding ends_i starts
  ends_plus = go t
    where
      go : (l : List ℕ) → ends_i (code "+" ∷ l) ≡ ends_i l
      go [] = refl
      go (x ∷ u) =
          let e : suc (suc (length u)) - 1 ≡ suc (length u) = omega arith in
          let f : suc (length u) - 1 ≡ length u = omega arith in
          rw (e, f)

  -- no other sign
  pub alone_one : true ≡ ends_i t → length t - 1 ≡ 0 → true ≡ is_parts (alone_of 10 0 joined)
  unfolding alone_of sign imaginary same complex_of ends_i starts
  alone_one e h = rw (ends_plus, ← e) (go t e h)
    where
      go : (l : List ℕ) → true ≡ ends_i l → length l - 1 ≡ 0 → true ≡ is_parts (complex_of (Some ImpliedZero) (imaginary 10 0 (init (code "+" ∷ l))))
      go [] e h = impossible cc
      go (x ∷ []) e h = refl
      go (x ∷ y ∷ u) e h = absurd (omega arith)

  pub alone_more : {n : ℕ} {r : Bool} → true ≡ ends_i t → n ≡ length t - 1 → (n ≡ 0 → ⊥) → r ≡ is_real (real 10 0 (code "+" ∷ take n t)) → r ≡ is_parts (alone_of 10 0 joined)
  unfolding alone_of sign imaginary same
  alone_more {n} {r} e h k g = rw (ends_plus, ← e) (g ∙ go t n h k)
    where
      go : (l : List ℕ) (n : ℕ) → n ≡ length l - 1 → (n ≡ 0 → ⊥)
          → is_real (real 10 0 (code "+" ∷ take n l)) ≡ is_parts (complex_of (Some ImpliedZero) (imaginary 10 0 (init (code "+" ∷ l))))
      go [] n h k = absurd (k h)
      go (x ∷ []) n h k = absurd (k h)
      go (x ∷ y ∷ u) n h k =
          let e : n ≡ suc (length u) = omega arith in
          let f : suc (suc (suc (length u))) - 1 ≡ suc (suc (length u)) = omega arith in
          rw (e, f) (sym (complex_real (Some ImpliedZero) (real 10 0 (code "+" ∷ x ∷ take (length u) (y ∷ u)))))

  pub alone_plain : {r : Bool} → false ≡ ends_i t → r ≡ is_real (real 10 0 joined) → r ≡ is_parts (alone_of 10 0 joined)
  unfolding alone_of
  alone_plain e g = rw (ends_plus, ← e) (g ∙ sym (just_real _))

  -- a sign at k
  module _ (k : ℕ) where
    pub pair_none : false ≡ ends_i (drop k t) → false ≡ is_parts (pair_of 10 0 (suc k) joined)
    unfolding pair_of
    pair_none e = rw (← e)

    module _ (i : true ≡ ends_i (drop k t)) {x : Bool} (f : x ≡ is_real (real 10 0 (code "+" ∷ take k t))) where
      both_is : is_parts (pair_of 10 0 (suc k) joined) ≡ (x && is_real (imaginary 10 (0 + suc k) (init (drop k t))))
      unfolding pair_of
      both_is = rw (← i, f) (complex_real _ _)

      pub pair_first : x ≡ false → false ≡ is_parts (pair_of 10 0 (suc k) joined)
      pair_first e = rw (both_is, e)

      pub pair_second : {z : Option Real} {r : Bool} → x ≡ true → k < length t → z ≡ imaginary 10 k (drop k (take (length t - 1) t)) → r ≡ is_real z → r ≡ is_parts (pair_of 10 0 (suc k) joined)
      pair_second {z} {r} e h g w =
          rw (both_is, e) (w ∙ (ap is_real g ∙ (ap (λ (l : List ℕ). is_real (imaginary 10 k l)) (init_is t k h) ∙ imaginary_moved k (0 + suc k) (init (drop k t)))))

  -- ---- every number

  at_is : before (code "@") joined ≡ suc (before (code "@") t)
  unfolding span
  at_is = refl

  module _ {k : ℕ} (q : k ≡ 0 + before (code "@") t) where
    at_there : before (code "@") joined ≡ suc k
    at_there = at_is ∙ ap suc (omega arith)

    module _ (h : k < length t) {x : Bool} (f : x ≡ is_real (real 10 0 (code "+" ∷ take k t))) where
      polar_is : numeric (parse_number joined) ≡ (x && is_real (real 10 (k + 1) (drop (k + 1) t)))
      unfolding complex
      polar_is =
          let e : ltb (suc k) (suc (length t)) ≡ true = lt-ltb (suc k) (suc (length t)) (omega arith) in
          let n : suc k + 1 ≡ suc (k + 1) = omega arith in
          plus_parts ∙ (rw (at_there, e, n, f) (polar_real _ _ ∙ rw (real_moved (0 + suc k + 1) (k + 1) (drop (k + 1) t))))

      pub number_polar : {z : Option Real} {r : Bool} → x ≡ true → z ≡ real 10 (k + 1) (drop (k + 1) t) → r ≡ is_real z → r ≡ numeric (parse_number joined)
      number_polar e g w = rw (polar_is, e) (rw g at w)

      pub number_first : x ≡ false → false ≡ numeric (parse_number joined)
      number_first e = rw (polar_is, e)

    module _ (h : length t ≤ k) {j : ℕ} (g : j ≡ 0 + to_sign false t) where
      no_at : numeric (parse_number joined) ≡ is_parts (rectangular 10 0 joined)
      unfolding complex
      no_at = let e : ltb (suc k) (suc (length t)) ≡ false = le-ltb (suc k) (suc (length t)) (omega arith) in plus_parts ∙ rw (at_there, e)

      cut_is : cut joined ≡ suc j
      unfolding starts_e exponent_marker
      cut_is = omega arith

      pub number_alone : {r : Bool} → length t ≤ j → r ≡ is_parts (alone_of 10 0 joined) → r ≡ numeric (parse_number joined)
      unfolding rectangular
      number_alone l w = let e : ltb (suc j) (suc (length t)) ≡ false = le-ltb (suc j) (suc (length t)) (omega arith) in w ∙ sym (no_at ∙ rw (cut_is, e))

      module _ (l : j < length t) {n : ℕ} (m : n ≡ j + 1 + to_sign false (drop (j + 1) t)) where
        further : suc j + 1 + to_sign false (drop (suc j + 1) joined) ≡ suc n
        further = let e : suc j + 1 ≡ suc (j + 1) = omega arith in rw e (omega arith)

        pub number_thrice : n < length t → false ≡ numeric (parse_number joined)
        unfolding rectangular
        number_thrice z =
            let e : ltb (suc j) (suc (length t)) ≡ true = lt-ltb (suc j) (suc (length t)) (omega arith) in
            let f : ltb (suc n) (suc (length t)) ≡ true = lt-ltb (suc n) (suc (length t)) (omega arith) in
            sym (no_at ∙ rw (cut_is, e, further, f))

        pub number_pair : {r : Bool} → length t ≤ n → r ≡ is_parts (pair_of 10 0 (suc j) joined) → r ≡ numeric (parse_number joined)
        unfolding rectangular
        number_pair z w =
            let e : ltb (suc j) (suc (length t)) ≡ true = lt-ltb (suc j) (suc (length t)) (omega arith) in
            let f : ltb (suc n) (suc (length t)) ≡ false = le-ltb (suc n) (suc (length t)) (omega arith) in
            w ∙ sym (no_at ∙ rw (cut_is, e, further, f))
