-- What the second reader reads, the grammar derives: up to <real R>.
use Rattle.std.proofs.Common.{None, Option, Some}
use mathlib.Core.Bool.{Bool, false, true}
use mathlib.Core.List.{List, [], ◌++◌, ◌∷◌, map}
use Prim.Native.Nat.{◌+◌, ◌≤◌, suc, ℕ}
use mathlib.Core.Path.{◌∙◌, ◌≡◌, ap, refl, subst, sym}
use native.Mathlib.Nat.{add-zero}
use native.Mathlib.Omega.{arith}
use lib.ListN.{drop, length, take, take-append-drop}
use lib.Seq.{drop-drop, length-take-le}
use lib.Dec.{eqb, ltb}
use borrow.Author.Tests.{eqb-false, eqb-true, ltb-true}
use Rattle.numbers.specs.declared.Suffix.TheVariants.{Bad, Empty, Marked}
use Rattle.numbers.specs.declared.Exponent.{Exponent}
use Rattle.numbers.specs.declared.Real.TheVariants.{ImpliedOne, Integer, NegInf, NegNan, PosInf, PosNan, Rational}
use Rattle.digits.specs.declared.Int.{Int}
use Rattle.numbers.specs.declared.Real.{Real}
use Rattle.digits.specs.declared.Span.{Span}
use Rattle.numbers.specs.declared.Suffix.{Suffix}
use Rattle.laws.specs.Texts.{before, same, starts}
use Rattle.laws.proofs.Choice.{by_bool, yes_no, impossible}
use Rattle.laws.specs.Quoted.{code, codes, within}
use Rattle.numbers.specs.Reals.{decimal, dotted, exponent, exponent_marker, integral_of, or_else, point_of, rational_of, suffix, undotted}
use Rattle.digits.specs.Digits.{digits, negative, sign, span_at, uinteger, whole_of}
use Rattle.numbers_standard.specs.Grammar.{imaginary}
use Rattle.numbers_standard.specs.Reals.{infnan, ratio, real, ureal}
use Rattle.laws.specs.Letters.{lower}
use Rattle.laws.proofs.Compared.{same_is}
use Rattle.laws.proofs.Runs.{span_le}
use Rattle.numbers_difference.specs.R7rs.{DecimalAt, ImaginaryAt, Infnan, RealAt, SuffixAt, URealAt, int_of, pointed}
use Rattle.numbers_difference.specs.Productions.{Digits, Letter, Sign, UInteger}
use Rattle.numbers_difference.proofs.Runs.{all_digits, before_split, is_a_digit, span_is, test_uint}
use Rattle.numbers_difference.proofs.Derived.{head_sign, head_ureal}
use Rattle.numbers.specs.Reals as bought

-- no real is one
pub none : {A : Type 0} (r : Real) → None ≡ Some r → A
none r e = impossible cc

-- <uinteger R>
pub whole_inv : (R : ℕ) (neg : Bool) (p : ℕ) (s : List ℕ) (n : Int) → whole_of R neg p s ≡ Some n → UInteger R s × (n ≡ int_of R neg p s)
unfolding whole_of int_of
whole_inv R neg p s n h =
    by_bool (uinteger R s) (λ e. (test_uint R s e, an (rw e at h))) (λ e. bad (rw e at h))
  where
    an : Some (int_of R neg p s) ≡ Some n → n ≡ int_of R neg p s
    an q = cc

    bad : {A : Type 0} → None ≡ Some n → A
    bad q = impossible cc

-- <sign>
pub sign_inv : (s : List ℕ) → Sign (take (sign s) s) (negative s)
unfolding sign starts
sign_inv [] = Sign.empty
sign_inv (c ∷ s) =
    by_bool (eqb c (code "+")) (λ e. rw (eqb-true c (code "+") e) Sign.positive) (λ e.
    by_bool (eqb c (code "-")) (λ f. rw (eqb-true c (code "-") f) Sign.negative) (λ f. rw (e, f) Sign.empty))

pub sign-length : (s : List ℕ) → length (take (sign s) s) ≡ sign s
unfolding sign
sign-length [] = refl
sign-length (c ∷ s) = by_bool (eqb c (code "+")) (λ e. rw e) (λ e. by_bool (eqb c (code "-")) (λ f. rw (e, f)) (λ f. rw (e, f)))

-- <suffix>
e_marker : (c : ℕ) → exponent_marker c ≡ true → Letter "e" c
unfolding exponent_marker lower within
e_marker c h =
    by_bool (eqb c (code "e")) (λ e. rw (eqb-true c (code "e") e) (Letter.letter refl)) (λ e.
    by_bool (eqb c (code "E")) (λ f. rw (eqb-true c (code "E") f) (Letter.letter refl)) (λ f. yes_no (sym (rw (e, f) at h))))

exp_inv : (p c : ℕ) (t : List ℕ) (e : Exponent) → exponent_marker c ≡ true → exponent (p + 1) t ≡ Marked e → SuffixAt p (c ∷ t) e
unfolding exponent
exp_inv p c t e m h = by_bool (uinteger 10 (drop (sign t) t)) (λ u. good u (rw u at h)) (λ u. bad (rw u at h))
  where
    bad : {A : Type 0} → Bad ≡ Marked e → A
    bad q = impossible cc

    read : Exponent
    read = record { negative = negative t; digits = span_at (p + 1 + sign t) (length (drop (sign t) t)) }

    base : uinteger 10 (drop (sign t) t) ≡ true → SuffixAt p (c ∷ t) read
    base u =
        let b : SuffixAt p (c ∷ (take (sign t) t ++ drop (sign t) t)) (record { negative = negative t; digits = span_at (p + 1 + length (take (sign t) t)) (length (drop (sign t) t)) })
        = SuffixAt.exponent (e_marker c m) (sign_inv t) (test_uint 10 (drop (sign t) t) u) in
        rw (take-append-drop (sign t) t, sign-length t) at b

    good : uinteger 10 (drop (sign t) t) ≡ true → Marked read ≡ Marked e → SuffixAt p (c ∷ t) e
    good u q = let a : e ≡ read = cc in rw a (base u)

suffix_inv : (p : ℕ) (x : List ℕ) (e : Exponent) → suffix p x ≡ Marked e → SuffixAt p x e
unfolding suffix
suffix_inv p [] e h = impossible cc
suffix_inv p (c ∷ t) e h = by_bool (exponent_marker c) (λ m. exp_inv p c t e m (rw m at h)) (λ m. bad (rw m at h))
  where
    bad : {A : Type 0} → Bad ≡ Marked e → A
    bad q = impossible cc

-- the exponent that the empty suffix has
abbrev none_at : ℕ → Exponent
none_at p = record { negative = false; digits = record { start = p; end = p } }

suffix_empty : (p : ℕ) (x : List ℕ) → suffix p x ≡ Empty → SuffixAt p x (none_at p)
unfolding suffix exponent
suffix_empty p [] h = SuffixAt.empty
suffix_empty p (c ∷ t) h =
    by_bool (exponent_marker c)
    (λ m. by_bool (uinteger 10 (drop (sign t) t)) (λ u. marked (rw (m, u) at h)) (λ u. bad (rw (m, u) at h)))
    (λ m. bad (rw m at h))
  where
    bad : {A : Type 0} → Bad ≡ Empty → A
    bad q = impossible cc

    marked : {A : Type 0} {e : Exponent} → Marked e ≡ Empty → A
    marked q = impossible cc

abbrev Pointed : Bool → Span → Span → ℕ → List ℕ → Real → Type 0
Pointed neg w f p x r = (e : Exponent) × SuffixAt p x e × (r ≡ pointed neg w f e)

point_inv : (neg : Bool) (w f : Span) (p : ℕ) (x : List ℕ) (r : Real) → f.end ≡ p → point_of neg w f (suffix p x) ≡ Some r → Pointed neg w f p x r
unfolding point_of
point_inv neg w f p x r q h = go (suffix p x) refl h
  where
    go : (z : Suffix) → suffix p x ≡ z → point_of neg w f z ≡ Some r → Pointed neg w f p x r
    go Empty i j = let k : r ≡ pointed neg w f (none_at f.end) = cc in (none_at p, suffix_empty p x i, rw (← q) k)
    go (Marked e) i j = let k : r ≡ pointed neg w f e = cc in (e, suffix_inv p x e i, k)
    go Bad i j = none r j

-- <decimal 10>
digits_uint : {R : ℕ} {s : List ℕ} → Digits R s → (s ≡ [] → ⊥) → UInteger R s
digits_uint Digits.none h = absurd (h refl)
digits_uint (Digits.more d ds) h = UInteger.uint d ds

run : (t : List ℕ) → Digits 10 (take (digits 10 t) t)
run t = all_digits 10 (take (digits 10 t) t) (span_is (is_a_digit 10) t)

run_length : (t : List ℕ) → length (take (digits 10 t) t) ≡ digits 10 t
run_length t = length-take-le (digits 10 t) t (span_le (is_a_digit 10) t)

dotted_inv : (neg : Bool) (p : ℕ) {D : List ℕ} → Digits 10 D → (t : List ℕ) (r : Real) → dotted neg p (length D) (p + length D + 1) t ≡ Some r → DecimalAt neg p (D ++ code "." ∷ t) r
unfolding dotted
dotted_inv neg p Digits.none t r h =
    by_bool (eqb (0 + digits 10 t) 0) (λ e. none r (rw e at h)) (λ e. good e (rw e at h))
  where
    made : (e : Exponent) → eqb (0 + digits 10 t) 0 ≡ false → SuffixAt (p + 1 + digits 10 t) (drop (digits 10 t) t) e
        → DecimalAt neg p (code "." ∷ t) (pointed neg (record { start = p; end = p }) (span_at (p + 1) (digits 10 t)) e)
    made e f z =
        let u : UInteger 10 (take (digits 10 t) t) = digits_uint (run t) (λ q. eqb-false (0 + digits 10 t) 0 f (omega (arith, ap length q, run_length t))) in
        let z' : SuffixAt (p + 1 + length (take (digits 10 t) t)) (drop (digits 10 t) t) e = rw (run_length t) z in
        let b : DecimalAt neg p (code "." ∷ (take (digits 10 t) t ++ drop (digits 10 t) t))
        (pointed neg (record { start = p; end = p }) (span_at (p + 1) (length (take (digits 10 t) t))) e) = DecimalAt.point u z' in
        rw (take-append-drop (digits 10 t) t, run_length t) at b

    good : eqb (0 + digits 10 t) 0 ≡ false → point_of neg (span_at p 0)
        (span_at (p + 0 + 1) (digits 10 t)) (suffix (p + 0 + 1 + digits 10 t) (drop (digits 10 t) t)) ≡ Some r → DecimalAt neg p (code "." ∷ t) r
    good e k =
        let k' : point_of neg (record { start = p; end = p }) (span_at (p + 1) (digits 10 t)) (suffix (p + 1 + digits 10 t) (drop (digits 10 t) t)) ≡ Some r = simp (add-zero p) at k in
        let i = point_inv neg (record { start = p; end = p }) (span_at (p + 1) (digits 10 t)) (p + 1 + digits 10 t) (drop (digits 10 t) t) r refl k' in
        rw i.2 (made i.0 e i.1)
dotted_inv neg p (Digits.more {c = c} {s = s} d ds) t r h =
    by_bool (eqb (suc (length s) + digits 10 t) 0) (λ e. none r (rw e at h)) (λ e. good (rw e at h))
  where
    made : (e : Exponent) → SuffixAt (p + suc (length s) + 1 + digits 10 t) (drop (digits 10 t) t) e
        → DecimalAt neg p (c ∷ (s ++ code "." ∷ t)) (pointed neg (span_at p (suc (length s))) (span_at (p + suc (length s) + 1) (digits 10 t)) e)
    made e z =
        let z' : SuffixAt (p + suc (length s) + 1 + length (take (digits 10 t) t)) (drop (digits 10 t) t) e = rw (run_length t) z in
        let b : DecimalAt neg p (c ∷ (s ++ code "." ∷ (take (digits 10 t) t ++ drop (digits 10 t) t)))
        (pointed neg (span_at p (suc (length s))) (span_at (p + suc (length s) + 1) (length (take (digits 10 t) t))) e)
        = DecimalAt.both {d = c ∷ s} (UInteger.uint d ds) (run t) z' in
        rw (take-append-drop (digits 10 t) t, run_length t) at b

    good : point_of neg (span_at p (suc (length s))) (span_at (p + suc (length s) + 1) (digits 10 t))
        (suffix (p + suc (length s) + 1 + digits 10 t) (drop (digits 10 t) t)) ≡ Some r → DecimalAt neg p (c ∷ (s ++ code "." ∷ t)) r
    good k =
        let i = point_inv neg (span_at p (suc (length s))) (span_at (p + suc (length s) + 1) (digits 10 t)) (p + suc (length s) + 1 + digits 10 t) (drop (digits 10 t) t) r refl k in
        rw i.2 (made i.0 i.1)

suffix_nil : {A : Type 0} (p : ℕ) {e : Exponent} → suffix p [] ≡ Marked e → A
unfolding suffix
suffix_nil p h = impossible cc

undotted_inv : (neg : Bool) (p : ℕ) {D : List ℕ} → Digits 10 D → (t : List ℕ) (r : Real) → undotted neg p (length D) (suffix (p + length D) t) ≡ Some r → DecimalAt neg p (D ++ t) r
unfolding undotted point_of
undotted_inv neg p {D} d t r h = go t (suffix (p + length D) t) refl h
  where
    ok : (c : ℕ) (x : List ℕ) (e : Exponent) → suffix (p + length D) (c ∷ x) ≡ Marked e → (eqb (length D) 0 ≡ false) → undotted neg p (length D) (Marked e) ≡ Some r → DecimalAt neg p (D ++ c ∷ x) r
    ok c x e i f j =
        let k : Some (pointed neg (span_at p (length D)) (record { start = p + length D; end = p + length D }) e) ≡ Some r = rw f at j in
        let l : r ≡ pointed neg (span_at p (length D)) (record { start = p + length D; end = p + length D }) e = cc in
        rw l (DecimalAt.whole (digits_uint d (λ q. eqb-false (length D) 0 f (ap length q))) (suffix_inv (p + length D) (c ∷ x) e i))

    go : (t : List ℕ) (z : Suffix) → suffix (p + length D) t ≡ z → undotted neg p (length D) z ≡ Some r → DecimalAt neg p (D ++ t) r
    go t Empty i j = none r j
    go t Bad i j = none r j
    go [] (Marked e) i j = suffix_nil (p + length D) i
    go (c ∷ x) (Marked e) i j = by_bool (eqb (length D) 0) (λ f. none r (rw f at j)) (λ f. ok c x e i f j)

pub decimal_inv : (neg : Bool) (p : ℕ) (s : List ℕ) (r : Real) → decimal neg p s ≡ Some r → DecimalAt neg p s r
unfolding decimal starts
decimal_inv neg p s r h =
    by_bool (starts (code ".") (drop (digits 10 s) s)) (λ e. dots (drop (digits 10 s) s) refl e (rw e at h)) (λ e. dotless (rw e at h))
  where
    dots : (x : List ℕ) → drop (digits 10 s) s ≡ x → starts (code ".") (drop (digits 10 s) s) ≡ true
        → dotted neg p (digits 10 s) (p + digits 10 s + 1) (drop (digits 10 s + 1) s) ≡ Some r → DecimalAt neg p s r
    dots [] q e k = yes_no (sym (rw q at e))
    dots (c ∷ x) q e k =
        let c-dot : c ≡ code "." = eqb-true c (code ".") (rw q at e) in
        let after : drop (digits 10 s + 1) s ≡ x = sym (drop-drop 1 (digits 10 s) s) ∙ ap (drop 1) q in
        let k' : dotted neg p (length (take (digits 10 s) s)) (p + length (take (digits 10 s) s) + 1) x ≡ Some r = rw (run_length s, ← after) k in
        let whole : take (digits 10 s) s ++ code "." ∷ x ≡ s = ap (λ (y : List ℕ). take (digits 10 s) s ++ y) (ap (λ (y : ℕ). y ∷ x) (sym c-dot) ∙ sym q) ∙ take-append-drop (digits 10 s) s in
        rw whole at (dotted_inv neg p (run s) x r k')

    dotless : undotted neg p (digits 10 s) (suffix (p + digits 10 s) (drop (digits 10 s) s)) ≡ Some r → DecimalAt neg p s r
    dotless k =
        let k' : undotted neg p (length (take (digits 10 s) s)) (suffix (p + length (take (digits 10 s) s)) (drop (digits 10 s) s)) ≡ Some r = rw (run_length s) k in
        rw (take-append-drop (digits 10 s) s) at (undotted_inv neg p (run s) (drop (digits 10 s) s) r k')

-- <uinteger R> | <uinteger R> / <uinteger R>
ratio_inv : (R : ℕ) (neg : Bool) (p : ℕ) (s : List ℕ) (r : Real) → ratio R neg p s ≡ Some r → URealAt R neg p s r
unfolding ratio rational_of integral_of
ratio_inv R neg p s r h = by_bool (ltb (before (code "/") s) (length s)) (λ e. two e _ refl _ refl (rw e at h)) (λ e. one _ refl (rw e at h))
  where
    k : ℕ
    k = before (code "/") s

    two : ltb (before (code "/") s) (length s) ≡ true → (x : Option Int) → whole_of R neg p (take (before (code "/") s) s) ≡ x
        → (y : Option Int) → whole_of R false (p + before (code "/") s + 1) (drop (before (code "/") s + 1) s) ≡ y
        → rational_of (whole_of R neg p (take (before (code "/") s) s)) (whole_of R false (p + before (code "/") s + 1) (drop (before (code "/") s + 1) s)) ≡ Some r → URealAt R neg p s r
    two e (Some n) f (Some d) g j =
        let a = whole_inv R neg p (take (before (code "/") s) s) n f in
        let b = whole_inv R false (p + before (code "/") s + 1) (drop (before (code "/") s + 1) s) d g in
        let l : length (take (before (code "/") s) s) ≡ before (code "/") s = length-take-le (before (code "/") s) s (omega (arith, ltb-true (before (code "/") s) (length s) e)) in
        let q : r ≡ Rational n d = sym (unr (rw (f, g) at j)) in
        let u : URealAt R neg p
        (take (before (code "/") s) s ++ code "/" ∷ drop (before (code "/") s + 1) s) (Rational (int_of R neg p (take (before (code "/") s) s))
        (int_of R false (p + length (take (before (code "/") s) s) + 1) (drop (before (code "/") s + 1) s))) = URealAt.rational a.0 b.0 in
        let v : URealAt R neg p s (Rational (int_of R neg p (take (before (code "/") s) s)) (int_of R false (p + length (take (before (code "/") s) s)
        + 1) (drop (before (code "/") s + 1) s))) = subst (λ (x : List ℕ). URealAt R neg p x (Rational (int_of R neg p (take (before (code "/") s) s))
        (int_of R false (p + length (take (before (code "/") s) s) + 1) (drop (before (code "/") s + 1) s)))) (sym (before_split (code "/") s e)) u in
        rw (q, a.1, b.1) (rw l at v)
      where
        unr : {n d : Int} → Some (Rational n d) ≡ Some r → Rational n d ≡ r
        unr j = cc
    two e None f y g j = none r (rw f at j)
    two e (Some n) f None g j = none r (rw (f, g) at j)

    one : (x : Option Int) → whole_of R neg p s ≡ x → integral_of (whole_of R neg p s) ≡ Some r → URealAt R neg p s r
    one (Some n) f j =
        let a = whole_inv R neg p s n f in
        let j' : Some (Integer n) ≡ Some r = rw f at j in
        let q : r ≡ Integer n = cc in
        rw (q, a.1) (URealAt.integer a.0)
    one None f j = none r (rw f at j)

-- <ureal R>
ureal_inv : (R : ℕ) (neg : Bool) (p : ℕ) (s : List ℕ) (r : Real) → ureal R neg p s ≡ Some r → URealAt R neg p s r
unfolding ureal or_else
ureal_inv R neg p s r h = by_bool (eqb R 10) (λ e. ten (eqb-true R 10 e) _ refl (rw e at h)) (λ e. ratio_inv R neg p s r (rw e at h))
  where
    ten : R ≡ 10 → (d : Option Real) → decimal neg p s ≡ d → or_else (decimal neg p s) (ratio R neg p s) ≡ Some r → URealAt R neg p s r
    ten e (Some x) f j =
        let j' : Some x ≡ Some r = rw f at j in
        URealAt.decimal e (decimal_inv neg p s r (f ∙ j'))
    ten e None f j = ratio_inv R neg p s r (rw f at j)

-- <infnan>
pub infnan_inv : (s : List ℕ) (r : Real) → infnan s ≡ Some r → Infnan s r
unfolding infnan bought.infnan
infnan_inv s r h =
    by_bool (same (map lower s) (codes "+inf.0")) (λ e. let q : Some PosInf ≡ Some r = rw e at h in let z : r ≡ PosInf = cc in rw z (Infnan.inf (same_is _ _ e))) (λ a.
    by_bool (same (map lower s) (codes "-inf.0")) (λ e. let q : Some NegInf ≡ Some r = rw (a, e) at h in let z : r ≡ NegInf = cc in rw z (Infnan.minus_inf (same_is _ _ e))) (λ b.
    by_bool (same (map lower s) (codes "+nan.0")) (λ e. let q : Some PosNan ≡ Some r = rw (a, b, e) at h in let z : r ≡ PosNan = cc in rw z (Infnan.nan (same_is _ _ e))) (λ c.
    by_bool (same (map lower s) (codes "-nan.0")) (λ e. let q : Some NegNan ≡ Some r = rw (a, b, c, e) at h in let z : r ≡ NegNan = cc in rw z (Infnan.minus_nan (same_is _ _ e))) (λ d.
    none r (rw (a, b, c, d) at h)))))

-- <real R>
pub real_inv : (R p : ℕ) (s : List ℕ) (r : Real) → real R p s ≡ Some r → RealAt R p s r
unfolding real or_else
real_inv R p s r h = go (infnan s) refl h
  where
    go : (x : Option Real) → infnan s ≡ x → or_else (infnan s) (ureal R (negative s) (p + sign s) (drop (sign s) s)) ≡ Some r → RealAt R p s r
    go (Some x) e j = let j' : Some x ≡ Some r = rw e at j in RealAt.infnan (infnan_inv s r (e ∙ j'))
    go None e j =
        let u : URealAt R (negative s) (p + sign s) (drop (sign s) s) r = ureal_inv R (negative s) (p + sign s) (drop (sign s) s) r (rw e at j) in
        let u' : URealAt R (negative s) (p + length (take (sign s) s)) (drop (sign s) s) r = rw (sign-length s) u in
        let b : RealAt R p (take (sign s) s ++ drop (sign s) s) r = RealAt.ureal (sign_inv s) u' in
        rw (take-append-drop (sign s) s) at b

-- before the i
pub real_imaginary : {R p : ℕ} {s : List ℕ} {r : Real} → R ≤ 16 → RealAt R p s r → (sign s ≡ 0 → ⊥) → ImaginaryAt R p s r
real_imaginary {R} h (RealAt.ureal {s = s} Sign.empty u) n = absurd (n (head_sign R s h (head_ureal u)).0)
real_imaginary h (RealAt.ureal Sign.positive u) n = ImaginaryAt.positive u
real_imaginary h (RealAt.ureal Sign.negative u) n = ImaginaryAt.negative u
real_imaginary h (RealAt.infnan i) n = ImaginaryAt.infnan i

pub imaginary_inv : (R p : ℕ) (s : List ℕ) (r : Real) → R ≤ 16 → (sign s ≡ 0 → ⊥) → imaginary R p s ≡ Some r → ImaginaryAt R p s r
unfolding imaginary
imaginary_inv R p s r l n h =
    by_bool (same s (code "+" ∷ [])) (λ e. let q : Some (ImpliedOne false) ≡ Some r = rw e at h in let z : r ≡ ImpliedOne false = cc in rw (z, same_is s _ e) ImaginaryAt.one) (λ a.
    by_bool (same s (code "-" ∷ [])) (λ e. let q : Some (ImpliedOne true) ≡ Some r = rw (a, e) at h in let z : r ≡ ImpliedOne true = cc in rw (z, same_is s _ e) ImaginaryAt.minus_one) (λ b.
    real_imaginary l (real_inv R p s r (rw (a, b) at h)) n))
