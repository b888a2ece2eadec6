-- The two readers on <real R>: where they agree, and a sign below the slash.
use Rattle.std.proofs.Common.{None, Option, Some}
use mathlib.Core.Bool.{Bool, false, true}
use mathlib.Core.List.{List, [], ◌++◌, ◌∷◌, append-nil}
use Prim.Native.Nat.{◌+◌, ◌<◌, ◌≤◌, ℕ}
use mathlib.Core.Path.{◌∙◌, ◌≡◌, ap, refl, subst, sym}
use mathlib.Core.Logic.{◌⊎◌, inl, inr}
use native.Mathlib.Nat.{add-zero}
use native.Mathlib.Omega.{arith}
use lib.ListN.{drop, length, length-append, take, take-append-drop}
use lib.Seq.{drop-append-add, drop-append_seam, length-take-le, take-append_seam}
use borrow.Author.Tests.{eq-eqb, eqb-false, eqb-true, lt-ltb, ltb-true}
use lib.Dec.{eqb, ltb}
use Rattle.digits.specs.declared.Int.{Int}
use Rattle.numbers.specs.declared.Real.TheVariants.{Integer, Rational}
use Rattle.numbers.specs.declared.Real.{Real}
use Rattle.laws.specs.Texts.{before, starts}
use Rattle.laws.proofs.Choice.{by_bool, yes_no}
use Rattle.laws.specs.Quoted.{code, within}
use Rattle.numbers.specs.Reals.{decimal, denominator, exact, integral_of, or_else, rational_of}
use Rattle.digits.specs.Digits.{digit_of, integer, negative, sign, whole_of}
use Rattle.laws.specs.Letters.{is_sign}
use Rattle.numbers_standard.specs.Reals.{ratio, real, ureal}
use Rattle.numbers_difference.proofs.Derived.{Head, at_slash, dec_digits, dec_slash, decimal_is, digit_slash, head_sign, head_uint}
use Rattle.numbers_difference.proofs.Derived.{head_ureal, infnan_none, plain, plain_digits_holds, plain_sign, plain_ureal, sign_is, whole_is}
use Rattle.numbers_difference.specs.R7rs.{RealAt, URealAt, int_of}
use Rattle.numbers_difference.specs.Productions.{Sign, UInteger}
use Rattle.numbers_difference.proofs.Walk.{Signed, digit_sign, other}
use Rattle.numbers_difference.specs.Conditions.{SignedBelow, capital}
use Rattle.numbers_difference.proofs.Runs.{all, all_append, all_cons, before_here, before_none, before_split, uint_digits}
use Rattle.numbers_difference.proofs.Sound.{decimal_inv, infnan_inv, none, sign_inv, sign-length, whole_inv}
use Rattle.numbers_difference.proofs.Letters.{infnan_exact, infnan_low, infnan_same}
use Rattle.numbers_difference.proofs.Somewhere.{plain-capital}
use Rattle.numbers_difference.proofs.Whole.{sign_signed}
use Rattle.numbers.specs.Reals as bought

-- the bought reader's integer or rational, by what the grammar derives
exact_cut : (R : ℕ) (neg : Bool) (p : ℕ) (w x : List ℕ) → all (other (code "/")) w ≡ true
    → exact R neg p (w ++ code "/" ∷ x) ≡ rational_of (whole_of R neg p w) (denominator R (p + length w + 1) x)
unfolding exact
exact_cut R neg p w x h =
    simp (
      before_here (code "/") w x h,
      lt-ltb (length w) (length (w ++ code "/" ∷ x)) (omega (arith, length-append w (code "/" ∷ x))),
      take-append_seam w (code "/" ∷ x),
      drop-append-add w (code "/" ∷ x) 1,
    )

-- a denominator with a sign, or with none
denominator_made : {R : ℕ} {g a : List ℕ} {n : Bool} (q : ℕ) → R ≤ 16 → Sign g n → UInteger R a → denominator R q (g ++ a) ≡ Some (int_of R n (q + length g) a)
unfolding denominator integer
denominator_made {R} {g} {a} {n} q l z u =
    let k = sign_is a z (head_sign R a l (rw append-nil at (head_uint [] u))) in
    simp (k.0, k.1, drop-append_seam g a, whole_is n (q + length g) u)

module _ {R : ℕ} {a : List ℕ} (n : Bool) (p : ℕ) (l : R ≤ 16) (u : UInteger R a) where
  exact_integer : exact R n p a ≡ Some (Integer (int_of R n p a))
  unfolding exact integral_of
  exact_integer = rw (before_none (code "/") a (digit_slash l (uint_digits u)), whole_is n p u)

  exact_ratio : {h b : List ℕ} {m : Bool} → Sign h m → UInteger R b
      → exact R n p (a ++ code "/" ∷ (h ++ b)) ≡ Some (Rational (int_of R n p a) (int_of R m (p + length a + 1 + length h) b))
  unfolding rational_of
  exact_ratio {h} {b} y v =
      exact_cut R n p a (h ++ b) (digit_slash l (uint_digits u)) ∙ rw (whole_is n p u, denominator_made (p + length a + 1) l y v)

-- the bought reader on a text that the grammar derives, without capitals
real-exact : (R p : ℕ) {g : List ℕ} (s : List ℕ) {n : Bool} {x : Option Real} → Sign g n → R ≤ 16 → Head R s → (R ≡ 10 → decimal n (p + length g) s ≡ None)
    → exact R n (p + length g) s ≡ x → bought.real R p (g ++ s) ≡ x
unfolding bought.real bought.ureal or_else
real-exact R p {g} s z l d e f =
    let k = sign_is s z (head_sign R s l d) in
    by_bool (eqb R 10)
    (λ q. simp (infnan_low (g ++ s) (infnan_none l z d), q, k.0, k.1, drop-append_seam g s, e (eqb-true R 10 q)) f)
    (λ q. simp (infnan_low (g ++ s) (infnan_none l z d), q, k.0, k.1, drop-append_seam g s) f)

-- a sign and what the grammar derives after it
ureal_low : {R : ℕ} (p : ℕ) {g s : List ℕ} {n : Bool} {r : Real} → R ≤ 16 → Sign g n → URealAt R n (p + length g) s r → bought.real R p (g ++ s) ≡ Some r
unfolding bought.real bought.ureal or_else
ureal_low {R} p {g} {s} {n} l z (URealAt.integer u) =
    real-exact R p s z l (rw append-nil at (head_uint [] u)) (λ q. dec_digits _ _ (rw q at (uint_digits u))) (exact_integer n (p + length g) l u)
ureal_low {R} p {g} {n = n} l z (URealAt.rational {a = a} {b = b} u v) =
    real-exact R p (a ++ code "/" ∷ b) z l (head_uint (code "/" ∷ b) u) (λ q. dec_slash _ _ b (rw q at (uint_digits u)))
    (simp add-zero at (exact_ratio n (p + length g) l u Sign.empty v))
ureal_low {R} p {g} {s} {n} {r} l z (URealAt.decimal e d) =
    let u : URealAt R n (p + length g) s r = URealAt.decimal e d in
    let h = head_ureal u in
    let k = sign_is s z (head_sign R s l h) in
    simp (infnan_low (g ++ s) (infnan_none l z h), eq-eqb R 10 e, k.0, k.1, drop-append_seam g s, decimal_is d)

pub real_low : {R p : ℕ} {s : List ℕ} {r : Real} → R ≤ 16 → RealAt R p s r → capital false s ≡ false → bought.real R p s ≡ Some r
unfolding bought.real or_else
real_low l (RealAt.infnan i) c = simp (infnan_exact i c)
real_low l (RealAt.ureal z u) c = ureal_low _ l z u

-- and what the bought reader takes for a real
sign-negative : (d : List ℕ) → sign d ≡ 0 → negative d ≡ false
unfolding sign starts
sign-negative [] h = refl
sign-negative (c ∷ d) h =
    by_bool (eqb c (code "+")) (λ e. absurd (omega (arith, rw e at h))) (λ e.
    by_bool (eqb c (code "-")) (λ f. absurd (omega (arith, rw (e, f) at h))) (λ f. f))

sign_one : (c : ℕ) (t : List ℕ) → is_sign c ≡ true → sign (c ∷ t) ≡ 1
unfolding sign is_sign
sign_one c t h = by_bool (eqb c (code "+")) (λ e. rw e) (λ e. by_bool (eqb c (code "-")) (λ f. rw (e, f)) (λ f. yes_no (sym (rw (e, f) at h))))

denominator_inv : (R q : ℕ) (d : List ℕ) (m : Int) → denominator R q d ≡ Some m → UInteger R (drop (sign d) d) × (m ≡ int_of R (negative d) (q + sign d) (drop (sign d) d))
unfolding denominator integer
denominator_inv R q d m h = whole_inv R (negative d) (q + sign d) (drop (sign d) d) m h

-- digits, a slash, a sign, digits
data UnderSlash (R : ℕ) : List ℕ → Type 0 where
  under : {a b : List ℕ} → UInteger R a → (c : ℕ) → is_sign c ≡ true → UInteger R b → UnderSlash R (a ++ code "/" ∷ c ∷ b)

-- after its sign: what the grammar derives, or a sign below the slash
abbrev ReadU : ℕ → Bool → ℕ → List ℕ → Real → Type 0
ReadU R neg p s r = URealAt R neg p s r ⊎ UnderSlash R s

module _ (R : ℕ) (neg : Bool) (p : ℕ) (w d : List ℕ) (n m : Int) (i : whole_of R neg p w ≡ Some n) (j : denominator R (p + length w + 1) d ≡ Some m) where
  over_slash : ReadU R neg p (w ++ code "/" ∷ d) (Rational n m)
  over_slash = by_bool (eqb (sign d) 0) (λ e. bare (eqb-true (sign d) 0 e)) (λ e. below (sign_signed d (eqb-false (sign d) 0 e)))
    where
      a : UInteger R w × (n ≡ int_of R neg p w)
      a = whole_inv R neg p w n i

      b : UInteger R (drop (sign d) d) × (m ≡ int_of R (negative d) (p + length w + 1 + sign d) (drop (sign d) d))
      b = denominator_inv R (p + length w + 1) d m j

      bare : sign d ≡ 0 → ReadU R neg p (w ++ code "/" ∷ d) (Rational n m)
      bare e =
          let v : UInteger R d = rw e at b.0 in
          let q : p + length w + 1 ≡ p + length w + 1 + sign d = omega arith in
          let m' : m ≡ int_of R false (p + length w + 1) d = rw (q, ← sign-negative d e) (subst (λ (k : ℕ). m ≡ int_of R (negative d) (p + length w + 1 + sign d) (drop k d)) e b.1) in
          inl (rw (a.1, m') (URealAt.rational a.0 v))

      below : Signed d → ReadU R neg p (w ++ code "/" ∷ d) (Rational n m)
      below c =
          let k : sign d ≡ 1 = ap sign c.2 ∙ sign_one c.0 c.1 c.3 in
          let t : drop (sign d) d ≡ c.1 = ap (λ (y : ℕ). drop y d) k ∙ ap (drop 1) c.2 in
          let v : UInteger R c.1 = rw t at b.0 in
          inr (rw c.2 (UnderSlash.under a.0 c.0 c.3 v))

exact_inv : (R : ℕ) (neg : Bool) (p : ℕ) (s : List ℕ) (r : Real) → exact R neg p s ≡ Some r → ReadU R neg p s r
unfolding exact rational_of integral_of
exact_inv R neg p s r h = by_bool (ltb (before (code "/") s) (length s)) (λ e. two e _ refl _ refl (rw e at h)) (λ e. one _ refl (rw e at h))
  where
    two : ltb (before (code "/") s) (length s) ≡ true → (x : Option Int) → whole_of R neg p (take (before (code "/") s) s) ≡ x
        → (y : Option Int) → denominator R (p + before (code "/") s + 1) (drop (before (code "/") s + 1) s) ≡ y
        → rational_of (whole_of R neg p (take (before (code "/") s) s)) (denominator R (p + before (code "/") s + 1) (drop (before (code "/") s + 1) s)) ≡ Some r → ReadU R neg p s r
    two e (Some n) f (Some m) g k =
        let k' : Some (Rational n m) ≡ Some r = rw (f, g) at k in
        let z : r ≡ Rational n m = cc in
        let o : length (take (before (code "/") s) s) ≡ before (code "/") s = length-take-le (before (code "/") s) s (omega (arith, ltb-true (before (code "/") s) (length s) e)) in
        let g' : denominator R (p + length (take (before (code "/") s) s) + 1) (drop (before (code "/") s + 1) s) ≡ Some m = rw o g in
        let c = over_slash R neg p (take (before (code "/") s) s) (drop (before (code "/") s + 1) s) n m f g' in
        subst (λ (y : List ℕ). ReadU R neg p y r) (sym (before_split (code "/") s e)) (rw z c)
    two e None f y g k = none r (rw f at k)
    two e (Some n) f None g k = none r (rw (f, g) at k)

    one : (x : Option Int) → whole_of R neg p s ≡ x → integral_of (whole_of R neg p s) ≡ Some r → ReadU R neg p s r
    one (Some n) f k =
        let k' : Some (Integer n) ≡ Some r = rw f at k in
        let z : r ≡ Integer n = cc in
        let a = whole_inv R neg p s n f in
        inl (rw (z, a.1) (URealAt.integer a.0))
    one None f k = none r (rw f at k)

ureal_read : (R : ℕ) (neg : Bool) (p : ℕ) (s : List ℕ) (r : Real) → bought.ureal R neg p s ≡ Some r → ReadU R neg p s r
unfolding bought.ureal or_else
ureal_read R neg p s r h = by_bool (eqb R 10) (λ e. ten (eqb-true R 10 e) _ refl (rw e at h)) (λ e. exact_inv R neg p s r (rw e at h))
  where
    ten : R ≡ 10 → (x : Option Real) → decimal neg p s ≡ x → or_else (decimal neg p s) (exact R neg p s) ≡ Some r → ReadU R neg p s r
    ten q (Some x) f k = let k' : Some x ≡ Some r = rw f at k in inl (URealAt.decimal q (decimal_inv neg p s r (f ∙ k')))
    ten q None f k = exact_inv R neg p s r (rw f at k)

-- a text without capitals that the grammar derives, or a sign below the slash
abbrev pub Read : ℕ → ℕ → List ℕ → Real → Type 0
Read R p s r = (RealAt R p s r × (capital false s ≡ false)) ⊎ SignedBelow R s

module _ {R p : ℕ} {g s : List ℕ} {n : Bool} {r : Real} (l : R ≤ 16) (z : Sign g n) where
  real_after : ReadU R n (p + length g) s r → Read R p (g ++ s) r
  real_after (inl u) = inl (RealAt.ureal z u, plain-capital (g ++ s) (all_append plain g s (plain_sign z) (plain_ureal l u)))
  real_after (inr d) = inr (go d)
    where
      go : {s : List ℕ} → UnderSlash R s → SignedBelow R (g ++ s)
      go (UnderSlash.under u c e v) = SignedBelow.ratio z u c e v

pub real_read : (R p : ℕ) (s : List ℕ) (r : Real) → R ≤ 16 → bought.real R p s ≡ Some r → Read R p s r
unfolding bought.real or_else
real_read R p s r l h = go (bought.infnan s) refl h
  where
    go : (x : Option Real) → bought.infnan s ≡ x → or_else (bought.infnan s) (bought.ureal R (negative s) (p + sign s) (drop (sign s) s)) ≡ Some r → Read R p s r
    go (Some x) e k =
        let k' : Some x ≡ Some r = rw e at k in
        let q = infnan_same s r (e ∙ k') in
        inl (RealAt.infnan (infnan_inv s r q.0), q.1)
    go None e k =
        let u : ReadU R (negative s) (p + length (take (sign s) s)) (drop (sign s) s) r = rw (sign-length s) (ureal_read R (negative s) (p + sign s) (drop (sign s) s) r (rw e at k)) in
        rw (take-append-drop (sign s) s) at (real_after l (sign_inv s) u)

-- a sign below the slash: the bought reader takes it, the second does not
pub below_real : {R : ℕ} {s : List ℕ} (p : ℕ) → R ≤ 16 → SignedBelow R s → (r : Real) × (bought.real R p s ≡ Some r)
unfolding is_sign
below_real {R} p l (SignedBelow.ratio {g = g} {a = a} {b = b} {n = n} z u c e v) =
    by_bool (eqb c (code "+"))
    (λ f. let q : c ≡ code "+" = eqb-true c (code "+") f in rw q (made Sign.positive))
    (λ f. let q : c ≡ code "-" = minus_is f e in rw q (made Sign.negative))
  where
    made : {h : List ℕ} {m : Bool} → Sign h m → (r : Real) × (bought.real R p (g ++ (a ++ code "/" ∷ (h ++ b))) ≡ Some r)
    made {h} y = (_, real-exact R p (a ++ code "/" ∷ (h ++ b)) z l (head_uint (code "/" ∷ (h ++ b)) u) (λ q. dec_slash _ _ (h ++ b) (rw q at (uint_digits u))) (exact_ratio n (p + length g) l u y v))

    minus_is : eqb c (code "+") ≡ false → is_sign c ≡ true → c ≡ code "-"
    minus_is f e = eqb-true c (code "-") (rw f at e)

whole_sign : (R q c : ℕ) (b : List ℕ) → R ≤ 16 → is_sign c ≡ true → whole_of R false q (c ∷ b) ≡ None
whole_sign R q c b l e = go (whole_of R false q (c ∷ b)) refl
  where
    uint_head : UInteger R (c ∷ b) → digit_of c < R
    uint_head (UInteger.uint h d) = h

    go : (x : Option Int) → whole_of R false q (c ∷ b) ≡ x → whole_of R false q (c ∷ b) ≡ None
    go None f = f
    go (Some n) f = yes_no (sym e ∙ digit_sign R c l (uint_head (whole_inv R false q (c ∷ b) n f).0))

ratio_cut : (R : ℕ) (neg : Bool) (p : ℕ) (w x : List ℕ) → all (other (code "/")) w ≡ true → ratio R neg p (w ++ code "/" ∷ x) ≡ rational_of (whole_of R neg p w) (whole_of R false (p + length w + 1) x)
unfolding ratio
ratio_cut R neg p w x h =
    simp (
      before_here (code "/") w x h,
      lt-ltb (length w) (length (w ++ code "/" ∷ x)) (omega (arith, length-append w (code "/" ∷ x))),
      take-append_seam w (code "/" ∷ x),
      drop-append-add w (code "/" ∷ x) 1,
    )

ratio_below : {R : ℕ} {a : List ℕ} (n : Bool) (p c : ℕ) (b : List ℕ) → R ≤ 16 → UInteger R a → is_sign c ≡ true → ratio R n p (a ++ code "/" ∷ c ∷ b) ≡ None
unfolding rational_of
ratio_below {R} {a} n p c b l u e = rw (ratio_cut R n p a (c ∷ b) (digit_slash l (uint_digits u)), whole_is n p u, whole_sign R (p + length a + 1) c b l e)

pub below_not : {R : ℕ} {s : List ℕ} (p : ℕ) → R ≤ 16 → SignedBelow R s → real R p s ≡ None
unfolding real or_else ureal
below_not {R} p l (SignedBelow.ratio {g = g} {a = a} {b = b} {n = n} z u c e v) =
    let h = head_uint (code "/" ∷ c ∷ b) u in
    let k = sign_is (a ++ code "/" ∷ c ∷ b) z (head_sign R (a ++ code "/" ∷ c ∷ b) l h) in
    by_bool (eqb R 10)
    (λ q. let q' : R ≡ 10 = eqb-true R 10 q in simp (
      infnan_none l z h,
      k.0,
      k.1,
      drop-append_seam g (a ++ code "/" ∷ c ∷ b),
      q,
      dec_slash n (p + length g) (c ∷ b) (rw q' at (uint_digits u)),
      ratio_below n (p + length g) c b l u e,
    ))
    (λ q. simp (infnan_none l z h, k.0, k.1, drop-append_seam g (a ++ code "/" ∷ c ∷ b), q, ratio_below n (p + length g) c b l u e))

sign_plain : (c : ℕ) → is_sign c ≡ true → plain c ≡ true
unfolding is_sign plain digit_of within
sign_plain c e = by_bool (eqb c (code "+")) (λ f. rw (eqb-true c (code "+") f)) (λ f. by_bool (eqb c (code "-")) (λ g. rw (eqb-true c (code "-") g)) (λ g. yes_no (sym (rw (f, g) at e))))

pub below_plain : {R : ℕ} {s : List ℕ} → R ≤ 16 → SignedBelow R s → all plain s ≡ true
below_plain {R} l (SignedBelow.ratio {g = g} {a = a} {b = b} z u c e v) =
    all_append plain g (a ++ code "/" ∷ c ∷ b) (plain_sign z) (all_append plain a (code "/" ∷ c ∷ b) (plain_digits_holds l (uint_digits u))
    (all_cons plain (code "/") (c ∷ b) at_slash (all_cons plain c b (sign_plain c e) (plain_digits_holds l (uint_digits v)))))
