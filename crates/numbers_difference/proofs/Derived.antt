-- What the grammar derives, the second reader reads: up to <real R>.
use mathlib.Core.Bool.{Bool, false, not, true}
use mathlib.Core.List.{List, [], ◌++◌, ◌∷◌, append-nil, map}
use Prim.Native.Nat.{◌+◌, ◌-◌, ◌<◌, ◌≤◌, ℕ}
use mathlib.Core.Path.{◌∙◌, ◌≡◌, ap, refl, sym}
use mathlib.Core.Logic.{◌⊎◌, inl, inr}
use native.Mathlib.Nat.{add-zero, zero-add}
use native.Mathlib.Omega.{arith}
use lib.Seq.{drop-append-add, drop-append_seam, drop-length, take-append_seam}
use borrow.Author.Tests.{eq-eqb, eqb-true, lt-ltb, ltb-true, ne_eqb}
use lib.Dec.{eqb, lit<, lit≤, ltb}
use lib.ListN.{length, length-append}
use Rattle.numbers.specs.declared.Exponent.{Exponent}
use Rattle.numbers.specs.declared.Real.TheVariants.{Integer, Rational}
use Rattle.numbers.specs.declared.Suffix.TheVariants.{Marked}
use Rattle.numbers.specs.declared.Real.{Real}
use Rattle.digits.specs.declared.Span.{Span}
use Rattle.numbers_standard.proofs.Letters.{UpperOf, lower_is}
use Rattle.laws.specs.Texts.{before, same, span, starts}
use Rattle.laws.proofs.Choice.{by_bool, yes_no}
use Rattle.laws.specs.Quoted.{code, within}
use Rattle.numbers.specs.Reals.{decimal, dotted, exponent, exponent_marker, integral_of, or_else, point_of, rational_of, suffix, undotted}
use Rattle.digits.specs.Digits.{digit_of, digits, negative, sign, span_at, whole_of}
use Rattle.std.specs.Prelude.{if◌then◌else◌, Some, None}
use Rattle.numbers_standard.specs.Grammar.{imaginary}
use Rattle.numbers_standard.specs.Reals.{infnan, ratio, real, ureal}
use Rattle.laws.specs.Letters.{is_sign, lower}
use Rattle.numbers_difference.specs.R7rs.{DecimalAt, ImaginaryAt, Infnan, RealAt, SuffixAt, URealAt, int_of, pointed}
use Rattle.numbers_difference.specs.Productions.{Digits, Letter, Sign, UInteger}
use Rattle.numbers_difference.proofs.Runs.{all, all_append, all_cons, all_imp, before_here, before_none, digit_differs, digits-all}
use Rattle.numbers_difference.proofs.Runs.{digits_end, is_a_digit, span_at_lem, span_stop, span_whole, uint_digits, uint_pos, uint_test}
use Rattle.numbers.specs.Reals as bought

pub marker_e : {c : ℕ} → Letter "e" c → exponent_marker c ≡ true
unfolding exponent_marker
marker_e {c} (Letter.letter h) = go (lower_is c (code "e") h)
  where
    go : (c ≡ code "e") ⊎ UpperOf c (code "e") → exponent_marker c ≡ true
    go (inl e) = rw e
    go (inr e) = let z : c ≡ code "E" = omega arith in rw z

-- the characters of a <ureal R> and its sign: digits, . / + -
unfoldable pub plain : ℕ → Bool
plain c = if ltb (digit_of c) 16 then true else if eqb c (code ".") then true else if eqb c (code "/") then true else is_sign c

plain_digit : (R c : ℕ) → R ≤ 16 → is_a_digit R c ≡ true → plain c ≡ true
unfolding plain
plain_digit R c h e = rw (lt-ltb (digit_of c) 16 (omega (arith, ltb-true (digit_of c) R e)))

pub plain_digits_holds : {R : ℕ} {s : List ℕ} → R ≤ 16 → Digits R s → all plain s ≡ true
plain_digits_holds {R} {s} h d = all_imp (is_a_digit R) plain (λ c. plain_digit R c h) s (digits-all d)

pub plain_sign : {g : List ℕ} {n : Bool} → Sign g n → all plain g ≡ true
unfolding all plain is_sign digit_of within
plain_sign Sign.empty = refl
plain_sign Sign.positive = refl
plain_sign Sign.negative = refl

plain_e : {c : ℕ} → Letter "e" c → plain c ≡ true
unfolding plain is_sign digit_of within
plain_e {c} (Letter.letter h) = go (lower_is c (code "e") h)
  where
    go : (c ≡ code "e") ⊎ UpperOf c (code "e") → plain c ≡ true
    go (inl e) = rw e
    go (inr e) = let z : c ≡ code "E" = omega arith in rw z

plain_suffix : {p : ℕ} {s : List ℕ} {e : Exponent} → SuffixAt p s e → all plain s ≡ true
unfolding all
plain_suffix SuffixAt.empty = refl
plain_suffix (SuffixAt.exponent {c = c} {g = g} {d = d} m h u) = all_cons plain c (g ++ d) (plain_e m) (all_append plain g d (plain_sign h) (plain_digits_holds (lit≤ tt) (uint_digits u)))

at_dot_lem : plain (code ".") ≡ true
unfolding plain is_sign digit_of within
at_dot_lem = refl

pub at_slash : plain (code "/") ≡ true
unfolding plain is_sign digit_of within
at_slash = refl

plain_decimal : {neg : Bool} {p : ℕ} {s : List ℕ} {r : Real} → DecimalAt neg p s r → all plain s ≡ true
plain_decimal (DecimalAt.whole {d = d} {c = c} {x = x} u z) = all_append plain d (c ∷ x) (plain_digits_holds (lit≤ tt) (uint_digits u)) (plain_suffix z)
plain_decimal (DecimalAt.point {f = f} {x = x} u z) = all_cons plain (code ".") (f ++ x) at_dot_lem (all_append plain f x (plain_digits_holds (lit≤ tt) (uint_digits u)) (plain_suffix z))
plain_decimal (DecimalAt.both {d = d} {f = f} {x = x} u v z) =
    all_append plain d (code "." ∷ (f ++ x)) (plain_digits_holds (lit≤ tt) (uint_digits u)) (all_cons plain (code ".") (f ++ x) at_dot_lem (all_append plain f x (plain_digits_holds (lit≤ tt) v) (plain_suffix z)))

pub plain_ureal : {R : ℕ} {neg : Bool} {p : ℕ} {s : List ℕ} {r : Real} → R ≤ 16 → URealAt R neg p s r → all plain s ≡ true
plain_ureal h (URealAt.integer u) = plain_digits_holds h (uint_digits u)
plain_ureal h (URealAt.rational {a = a} {b = b} u v) = all_append plain a (code "/" ∷ b) (plain_digits_holds h (uint_digits u)) (all_cons plain (code "/") b at_slash (plain_digits_holds h (uint_digits v)))
plain_ureal h (URealAt.decimal e d) = plain_decimal d

-- plain characters are none of the others
pub plain-not : (x : ℕ) → plain x ≡ false → (s : List ℕ) → all plain s ≡ true → all (λ c. not (eqb c x)) s ≡ true
plain-not x h s a = all_imp plain (λ c. not (eqb c x)) (λ c e. ap not (ne_eqb c x (λ q. yes_no (sym e ∙ ap plain q ∙ h)))) s a

-- the first character of a <ureal R>
abbrev pub Head : ℕ → List ℕ → Type 0
Head R s = (c : ℕ) × (t : List ℕ) × (s ≡ c ∷ t) × ((digit_of c < R) ⊎ (c ≡ code "."))

pub head_uint : {R : ℕ} {s : List ℕ} (x : List ℕ) → UInteger R s → Head R (s ++ x)
head_uint x (UInteger.uint {c = c} {s = s} h d) = (c, s ++ x, refl, inl h)

head_decimal : {neg : Bool} {p : ℕ} {s : List ℕ} {r : Real} → DecimalAt neg p s r → Head 10 s
head_decimal (DecimalAt.whole {c = c} {x = x} u z) = head_uint (c ∷ x) u
head_decimal (DecimalAt.point {f = f} {x = x} u z) = (code ".", f ++ x, refl, inr refl)
head_decimal (DecimalAt.both {f = f} {x = x} u v z) = head_uint (code "." ∷ (f ++ x)) u

pub head_ureal : {R : ℕ} {neg : Bool} {p : ℕ} {s : List ℕ} {r : Real} → URealAt R neg p s r → Head R s
head_ureal {s = s} (URealAt.integer u) = rw append-nil at (head_uint [] u)
head_ureal (URealAt.rational {b = b} u v) = head_uint (code "/" ∷ b) u
head_ureal (URealAt.decimal e d) = rw e (head_decimal d)

-- such a character, in either case, is no character that is no digit in either case
head_not : (R c x : ℕ) → R ≤ 16 → (digit_of c < R) ⊎ (c ≡ code ".") → digit_of x ≡ 16 → digit_of (x - 32) ≡ 16 → (code "." ≡ x → ⊥) → lower c ≡ x → ⊥
unfolding lower within
head_not R c x h (inl d) e f n l = go (lower_is c x l)
  where
    go : (c ≡ x) ⊎ UpperOf c x → ⊥
    go (inl q) = digit_differs R c x d (omega arith) q
    go (inr q) = let z : c ≡ x - 32 = omega arith in digit_differs R c (x - 32) d (omega arith) z
head_not R c x h (inr d) e f n l = n (sym low ∙ l)
  where
    low : lower c ≡ code "."
    low = rw d

-- no sign stands there
sign_none : (c : ℕ) (t : List ℕ) → (c ≡ code "+" → ⊥) → (c ≡ code "-" → ⊥) → (sign (c ∷ t) ≡ 0) × (negative (c ∷ t) ≡ false)
unfolding sign starts
sign_none c t h k = (simp (ne_eqb c (code "+") h, ne_eqb c (code "-") k), ne_eqb c (code "-") k)

low_plus : lower (code "+") ≡ code "+"
unfolding lower within
low_plus = refl

low_minus : lower (code "-") ≡ code "-"
unfolding lower within
low_minus = refl

nodig : (x : ℕ) → (x ≡ code "+") ⊎ (x ≡ code "-") → (digit_of x ≡ 16) × (digit_of (x - 32) ≡ 16)
unfolding digit_of within
nodig x (inl e) = rw e (refl, refl)
nodig x (inr e) = rw e (refl, refl)

head_plus : (R c : ℕ) → R ≤ 16 → (digit_of c < R) ⊎ (c ≡ code ".") → lower c ≡ code "+" → ⊥
head_plus R c h d = head_not R c (code "+") h d (nodig (code "+") (inl refl)).0 (nodig (code "+") (inl refl)).1 (λ e. omega arith)

head_minus : (R c : ℕ) → R ≤ 16 → (digit_of c < R) ⊎ (c ≡ code ".") → lower c ≡ code "-" → ⊥
head_minus R c h d = head_not R c (code "-") h d (nodig (code "-") (inr refl)).0 (nodig (code "-") (inr refl)).1 (λ e. omega arith)

pub head_sign : (R : ℕ) (s : List ℕ) → R ≤ 16 → Head R s → (sign s ≡ 0) × (negative s ≡ false)
head_sign R s h d =
    rw d.2 (sign_none d.0 d.1 (λ e. head_plus R d.0 h d.3 (ap lower e ∙ low_plus)) (λ e. head_minus R d.0 h d.3 (ap lower e ∙ low_minus)))

pub sign_is : {g : List ℕ} {n : Bool} (s : List ℕ) → Sign g n → (sign s ≡ 0) × (negative s ≡ false) → (sign (g ++ s) ≡ length g) × (negative (g ++ s) ≡ n)
unfolding sign starts
sign_is s Sign.empty h = h
sign_is s Sign.positive h = (refl, refl)
sign_is s Sign.negative h = (refl, refl)

-- <uinteger R>
pub whole_is : {R : ℕ} {s : List ℕ} (neg : Bool) (p : ℕ) → UInteger R s → whole_of R neg p s ≡ Some (int_of R neg p s)
unfolding whole_of int_of
whole_is neg p u = rw (uint_test u)

-- <suffix>
exp_is : {p : ℕ} {c : ℕ} {x : List ℕ} {e : Exponent} → SuffixAt p (c ∷ x) e → suffix p (c ∷ x) ≡ Marked e
unfolding suffix exponent
exp_is {p} (SuffixAt.exponent {c = c} {g = g} {d = d} m h u) =
    let k = sign_is d h (head_sign 10 d (lit≤ tt) (rw append-nil at (head_uint [] u))) in
    simp (marker_e m, k.0, k.1, drop-append_seam g d, uint_test u)

point_is : {p : ℕ} {x : List ℕ} {e : Exponent} (neg : Bool) (w f : Span) → SuffixAt p x e → f.end ≡ p → point_of neg w f (suffix p x) ≡ Some (pointed neg w f e)
unfolding point_of suffix
point_is {p} neg w f SuffixAt.empty q = rw q
point_is neg w f (SuffixAt.exponent {c = c} {g = g} {d = d} m h u) q = rw (exp_is (SuffixAt.exponent m h u))

ten_not : (c : ℕ) → exponent_marker c ≡ true → (ltb (digit_of c) 10 ≡ false) × (eqb c (code ".") ≡ false)
unfolding exponent_marker digit_of within
ten_not c h =
    by_bool (eqb c (code "e")) (λ e. rw (eqb-true c (code "e") e) (refl, refl)) (λ e.
    by_bool (eqb c (code "E")) (λ f. rw (eqb-true c (code "E") f) (refl, refl)) (λ f. yes_no (sym (rw (e, f) at h))))

suffix_stops : {p : ℕ} {x : List ℕ} {e : Exponent} → SuffixAt p x e → digits 10 x ≡ 0
unfolding span
suffix_stops SuffixAt.empty = refl
suffix_stops (SuffixAt.exponent {c = c} m h u) = rw (ten_not c (marker_e m)).0

-- <decimal 10>
dot_ten : is_a_digit 10 (code ".") ≡ false
unfolding digit_of within
dot_ten = refl

pub decimal_is : {neg : Bool} {p : ℕ} {s : List ℕ} {r : Real} → DecimalAt neg p s r → decimal neg p s ≡ Some r
unfolding decimal dotted undotted starts point_of
decimal_is {neg} {p} (DecimalAt.whole {d = d} {c = c} {x = x} {e = e} u (SuffixAt.exponent {g = g} {d = y} m h v)) =
    let z : SuffixAt (p + length d) (c ∷ (g ++ y)) e = SuffixAt.exponent m h v in
    let k : digits 10 (d ++ c ∷ (g ++ y)) ≡ length d = digits_end (c ∷ (g ++ y)) (uint_digits u) (suffix_stops z) in
    simp (k, drop-append_seam d (c ∷ (g ++ y)), (ten_not c (marker_e m)).1, exp_is z, ne_eqb (length d) 0 (λ q. omega (arith, uint_pos u)))
decimal_is {neg} {p} (DecimalAt.point {f = f} {x = x} {e = e} u z) =
    let k : digits 10 (code "." ∷ (f ++ x)) ≡ 0 = span_stop (is_a_digit 10) (code ".") (f ++ x) dot_ten in
    let j : digits 10 (f ++ x) ≡ length f = digits_end x (uint_digits u) (suffix_stops z) in
    simp (k, add-zero p, j, zero-add (length f), drop-append_seam f x, ne_eqb (length f) 0 (λ q. omega (arith, uint_pos u)))
    (point_is neg (record { start = p; end = p }) (span_at (p + 1) (length f)) z refl)
decimal_is {neg} {p} (DecimalAt.both {d = d} {f = f} {x = x} {e = e} u v z) =
    let k : digits 10 (d ++ code "." ∷ (f ++ x)) ≡ length d = digits_end (code "." ∷ (f ++ x)) (uint_digits u) (span_stop (is_a_digit 10) (code ".") (f ++ x) dot_ten) in
    let j : digits 10 (f ++ x) ≡ length f = digits_end x v (suffix_stops z) in
    simp (k, drop-append_seam d (code "." ∷ (f ++ x)), drop-append-add d (code "." ∷ (f ++ x)) 1, j, drop-append_seam f x, ne_eqb (length d + length f) 0 (λ q. omega (arith, uint_pos u)))
    (point_is neg (span_at p (length d)) (span_at (p + length d + 1) (length f)) z refl)

-- digits alone, or digits and a slash, are no <decimal 10> with a dot or an exponent
pub dec_digits : (neg : Bool) (p : ℕ) {d : List ℕ} → Digits 10 d → decimal neg p d ≡ None
unfolding decimal undotted starts suffix
dec_digits neg p {d} h = simp (span_whole (is_a_digit 10) d (digits-all h), drop-length d)

pub dec_slash : (neg : Bool) (p : ℕ) {d : List ℕ} (b : List ℕ) → Digits 10 d → decimal neg p (d ++ code "/" ∷ b) ≡ None
unfolding decimal undotted starts suffix exponent_marker digit_of within
dec_slash neg p {d} b h = simp (span_at_lem (is_a_digit 10) d (code "/") b (digits-all h) refl, drop-append_seam d (code "/" ∷ b))

-- <uinteger R> and <uinteger R> / <uinteger R>
pub digit_slash : {R : ℕ} {s : List ℕ} → R ≤ 16 → Digits R s → all (λ c. not (eqb c (code "/"))) s ≡ true
unfolding digit_of within
digit_slash {R} {s} h d = all_imp (is_a_digit R) (λ c. not (eqb c (code "/"))) (λ c e. ap not (ne_eqb c (code "/") (digit_differs R c (code "/") (ltb-true (digit_of c) R e) h))) s (digits-all d)

ratio_integer : {R : ℕ} {s : List ℕ} (neg : Bool) (p : ℕ) → R ≤ 16 → UInteger R s → ratio R neg p s ≡ Some (Integer (int_of R neg p s))
unfolding ratio integral_of
ratio_integer {R} {s} neg p h u = simp (before_none (code "/") s (digit_slash h (uint_digits u)), whole_is neg p u)

ratio_rational : {R : ℕ} {a b : List ℕ} (neg : Bool) (p : ℕ) → R ≤ 16 → UInteger R a → UInteger R b
    → ratio R neg p (a ++ code "/" ∷ b) ≡ Some (Rational (int_of R neg p a) (int_of R false (p + length a + 1) b))
unfolding ratio rational_of
ratio_rational {R} {a} {b} neg p h u v =
    let k : before (code "/") (a ++ code "/" ∷ b) ≡ length a = before_here (code "/") a b (digit_slash h (uint_digits u)) in
    simp (
      k,
      lt-ltb (length a) (length (a ++ code "/" ∷ b)) (rw length-append (omega arith)),
      take-append_seam a (code "/" ∷ b),
      drop-append-add a (code "/" ∷ b) 1,
      whole_is neg p u,
      whole_is false (p + length a + 1) v,
    )

-- <ureal R>
ureal_is : {R : ℕ} {neg : Bool} {p : ℕ} {s : List ℕ} {r : Real} → R ≤ 16 → URealAt R neg p s r → ureal R neg p s ≡ Some r
unfolding ureal or_else
ureal_is {R} {neg} {p} h (URealAt.integer {s = s} u) =
    by_bool (eqb R 10)
    (λ e. let q : R ≡ 10 = eqb-true R 10 e in simp (e, dec_digits neg p {d = s} (rw q at (uint_digits u)), ratio_integer neg p h u))
    (λ e. simp (e, ratio_integer neg p h u))
ureal_is {R} {neg} {p} h (URealAt.rational {a = a} {b = b} u v) =
    by_bool (eqb R 10)
    (λ e. let q : R ≡ 10 = eqb-true R 10 e in simp (e, dec_slash neg p {d = a} b (rw q at (uint_digits u)), ratio_rational neg p h u v))
    (λ e. simp (e, ratio_rational neg p h u v))
ureal_is {R} h (URealAt.decimal e d) = simp (eq-eqb R 10 e, decimal_is d)

-- <infnan>
infnan_is : {s : List ℕ} {r : Real} → Infnan s r → infnan s ≡ Some r
unfolding infnan bought.infnan same
infnan_is (Infnan.inf e) = rw e
infnan_is (Infnan.minus_inf e) = rw e
infnan_is (Infnan.nan e) = rw e
infnan_is (Infnan.minus_nan e) = rw e

infnan_first : (c : ℕ) (t : List ℕ) → (c ≡ code "+" → ⊥) → (c ≡ code "-" → ⊥) → bought.infnan (c ∷ t) ≡ None
unfolding bought.infnan same
infnan_first c t h k = simp (ne_eqb c (code "+") h, ne_eqb c (code "-") k)

infnan_second : (c d : ℕ) (t : List ℕ) → (d ≡ code "i" → ⊥) → (d ≡ code "n" → ⊥) → bought.infnan (c ∷ d ∷ t) ≡ None
unfolding bought.infnan same
infnan_second c d t h k =
    by_bool (eqb c (code "+")) (λ e. by_bool (eqb c (code "-")) (λ f. simp (e, f, ne_eqb d (code "i") h, ne_eqb d (code "n") k)) (λ f. simp (e, f, ne_eqb d (code "i") h, ne_eqb d (code "n") k)))
    (λ e. by_bool (eqb c (code "-")) (λ f. simp (e, f, ne_eqb d (code "i") h, ne_eqb d (code "n") k)) (λ f. simp (e, f)))

nodig_in : (x : ℕ) → (x ≡ code "i") ⊎ (x ≡ code "n") → (digit_of x ≡ 16) × (digit_of (x - 32) ≡ 16)
unfolding digit_of within
nodig_in x (inl e) = rw e (refl, refl)
nodig_in x (inr e) = rw e (refl, refl)

pub infnan_none : {R : ℕ} {g s : List ℕ} {n : Bool} → R ≤ 16 → Sign g n → Head R s → infnan (g ++ s) ≡ None
unfolding infnan
infnan_none {R} {s = s} h Sign.empty d = rw d.2 (infnan_first (lower d.0) (map lower d.1) (head_plus R d.0 h d.3) (head_minus R d.0 h d.3))
infnan_none {R} {s = s} h Sign.positive d =
    rw d.2 (infnan_second (lower (code "+")) (lower d.0) (map lower d.1)
    (head_not R d.0 (code "i") h d.3 (nodig_in (code "i") (inl refl)).0 (nodig_in (code "i") (inl refl)).1 (λ e. omega arith))
    (head_not R d.0 (code "n") h d.3 (nodig_in (code "n") (inr refl)).0 (nodig_in (code "n") (inr refl)).1 (λ e. omega arith)))
infnan_none {R} {s = s} h Sign.negative d =
    rw d.2 (infnan_second (lower (code "-")) (lower d.0) (map lower d.1)
    (head_not R d.0 (code "i") h d.3 (nodig_in (code "i") (inl refl)).0 (nodig_in (code "i") (inl refl)).1 (λ e. omega arith))
    (head_not R d.0 (code "n") h d.3 (nodig_in (code "n") (inr refl)).0 (nodig_in (code "n") (inr refl)).1 (λ e. omega arith)))

-- <real R>
pub real_is : {R p : ℕ} {s : List ℕ} {r : Real} → R ≤ 16 → RealAt R p s r → real R p s ≡ Some r
unfolding real or_else
real_is {R} {p} h (RealAt.ureal {g = g} {s = s} g' u) =
    let d = head_ureal u in
    let k = sign_is s g' (head_sign R s h d) in
    simp (infnan_none h g' d, k.0, k.1, drop-append_seam g s, ureal_is h u)
real_is {R} {p} h (RealAt.infnan i) = simp (infnan_is i)

-- before the i
pub imaginary_is : {R p : ℕ} {s : List ℕ} {r : Real} → R ≤ 16 → ImaginaryAt R p s r → imaginary R p s ≡ Some r
unfolding imaginary same
imaginary_is {R} {p} h (ImaginaryAt.positive {s = s} u) =
    let d = head_ureal u in simp (longer s [] d) (real_is h (RealAt.ureal Sign.positive u))
  where
    longer : (s t : List ℕ) → Head R s → same s [] ≡ false
    longer s t d = rw d.2
imaginary_is {R} {p} h (ImaginaryAt.negative {s = s} u) =
    let d = head_ureal u in simp (longer s [] d) (real_is h (RealAt.ureal Sign.negative u))
  where
    longer : (s t : List ℕ) → Head R s → same s [] ≡ false
    longer s t d = rw d.2
imaginary_is {R} {p} h (ImaginaryAt.infnan {s = s} i) = simp (not_one s (code "+") i, not_one s (code "-") i) (real_is h (RealAt.infnan i))
  where
    short : (s w : List ℕ) (x : ℕ) → map lower s ≡ w → 1 < length w → same s (x ∷ []) ≡ false
    short [] w x e k = refl
    short (c ∷ []) w x e k = absurd (omega (arith, ap length e))
    short (c ∷ d ∷ s) w x e k = by_bool (eqb c x) (λ f. rw f) (λ f. rw f)

    not_one : (s : List ℕ) (x : ℕ) {r : Real} → Infnan s r → same s (x ∷ []) ≡ false
    not_one s x (Infnan.inf e) = short s _ x e (lit< tt)
    not_one s x (Infnan.minus_inf e) = short s _ x e (lit< tt)
    not_one s x (Infnan.nan e) = short s _ x e (lit< tt)
    not_one s x (Infnan.minus_nan e) = short s _ x e (lit< tt)
imaginary_is h ImaginaryAt.one = refl
imaginary_is h ImaginaryAt.minus_one = refl
