-- The walk to the sign that joins two parts: it passes over a part that the grammar derives, and stops at the sign after it.
use mathlib.Core.Bool.{Bool, false, not, true}
use mathlib.Core.List.{List, [], ◌++◌, ◌∷◌, append_assoc, map}
use Prim.Native.Nat.{◌+◌, ◌<◌, ◌≤◌, suc, ℕ}
use mathlib.Core.Path.{◌∙◌, ◌≡◌, ap, refl, sym}
use mathlib.Core.Logic.{◌⊎◌, inl, inr}
use native.Mathlib.Omega.{arith}
use borrow.Author.Tests.{eq-eqb, eqb-true, ltb-true, ne_eqb}
use lib.Dec.{eqb, lit≤}
use lib.ListN.{length, length-append}
use native.Mathlib.Nat.{zero-add}
use Rattle.numbers.specs.declared.Exponent.{Exponent}
use Rattle.numbers.specs.declared.Real.{Real}
use Rattle.numbers_standard.proofs.Letters.{UpperOf, lower_is}
use Rattle.laws.proofs.Choice.{by_bool, yes_no, impossible}
use Rattle.laws.specs.Quoted.{code, codes, within}
use Rattle.digits.specs.Digits.{digit_of, sign}
use Rattle.numbers.specs.Reals.{exponent_marker}
use Rattle.std.specs.Prelude.{if◌then◌else◌}
use Rattle.laws.specs.Letters.{is_sign, lower}
use Rattle.numbers_standard.specs.Grammar.{joint}
use Rattle.laws.specs.Texts.{span}
use Rattle.numbers.specs.Grammar.{starts_e, to_sign}
use Rattle.numbers_difference.specs.R7rs.{DecimalAt, ImaginaryAt, Infnan, RealAt, SuffixAt, URealAt}
use Rattle.numbers_difference.specs.Productions.{Digits, Letter, Sign, UInteger}
use Rattle.numbers_difference.proofs.Derived.{Head, head_ureal, marker_e, plain, plain-not, plain_sign, plain_ureal}
use Rattle.numbers_difference.proofs.Runs.{all, all_append, all_cons, all_head, all_imp, all_tail, digit_differs, digits-all, is_a_digit, span-all, uint_digits}

-- the radix of a <prefix R>
abbrev pub Radix : ℕ → Type 0
Radix R = (R ≤ 10) ⊎ (R ≡ 16)

pub radix_le : {R : ℕ} → Radix R → R ≤ 16
radix_le (inl h) = omega arith
radix_le (inr h) = omega arith

-- characters of a number's text: `Foreign x` holds of @ and #
abbrev pub other : ℕ → ℕ → Bool
other x c = not (eqb c x)

abbrev pub Foreign : ℕ → Type 0
Foreign x = (plain x ≡ false) × (lower x ≡ x) × (all (other x) (codes "+inf.0") ≡ true)
    × (all (other x) (codes "-inf.0") ≡ true) × (all (other x) (codes "+nan.0") ≡ true) × (all (other x) (codes "-nan.0") ≡ true)

pub foreign_at : Foreign (code "@")
unfolding plain digit_of is_sign lower all within
foreign_at = (refl, refl, refl, refl, refl, refl)

pub foreign_hash : Foreign (code "#")
unfolding plain digit_of is_sign lower all within
foreign_hash = (refl, refl, refl, refl, refl, refl)

pub all_nil : (f : ℕ → Bool) → all f [] ≡ true
unfolding all
all_nil f = refl

low_all : (f : ℕ → Bool) (s : List ℕ) → all f (map lower s) ≡ true → all (λ c. f (lower c)) s ≡ true
unfolding all
low_all f [] h = refl
low_all f (c ∷ s) h = all_cons (λ c. f (lower c)) c s (all_head f (lower c) (map lower s) h) (low_all f s (all_tail f (lower c) (map lower s) h))

low_other : (x : ℕ) (s w : List ℕ) → lower x ≡ x → map lower s ≡ w → all (other x) w ≡ true → all (other x) s ≡ true
low_other x s w l e h =
    all_imp (λ c. other x (lower c)) (other x) (λ c k. by_bool (eqb c x) (λ q. yes_no (sym k ∙ ap (other x) (ap lower (eqb-true c x q) ∙ l) ∙ ap not (eq-eqb x x refl))) (λ q. ap not q)) s
    (low_all (other x) s (rw e h))

infnan_other : {s : List ℕ} {r : Real} (x : ℕ) → Foreign x → Infnan s r → all (other x) s ≡ true
infnan_other {s} x f (Infnan.inf e) = low_other x s _ f.1 e f.2
infnan_other {s} x f (Infnan.minus_inf e) = low_other x s _ f.1 e f.3
infnan_other {s} x f (Infnan.nan e) = low_other x s _ f.1 e f.4
infnan_other {s} x f (Infnan.minus_nan e) = low_other x s _ f.1 e f.5

pub real_other : {R p : ℕ} {s : List ℕ} {r : Real} (x : ℕ) → Foreign x → R ≤ 16 → RealAt R p s r → all (other x) s ≡ true
real_other x f h (RealAt.ureal {g = g} {s = s} z u) = plain-not x f.0 (g ++ s) (all_append plain g s (plain_sign z) (plain_ureal h u))
real_other x f h (RealAt.infnan i) = infnan_other x f i

plain_signs : (plain (code "+") ≡ true) × (plain (code "-") ≡ true)
unfolding plain digit_of is_sign within
plain_signs = (refl, refl)

pub imaginary_other : {R p : ℕ} {s : List ℕ} {r : Real} (x : ℕ) → Foreign x → R ≤ 16 → ImaginaryAt R p s r → all (other x) s ≡ true
unfolding all
imaginary_other x f h (ImaginaryAt.positive {s = s} u) = plain-not x f.0 (code "+" ∷ s) (all_cons plain (code "+") s plain_signs.0 (plain_ureal h u))
imaginary_other x f h (ImaginaryAt.negative {s = s} u) = plain-not x f.0 (code "-" ∷ s) (all_cons plain (code "-") s plain_signs.1 (plain_ureal h u))
imaginary_other x f h (ImaginaryAt.infnan i) = infnan_other x f i
imaginary_other x f h ImaginaryAt.one = plain-not x f.0 (code "+" ∷ []) (all_cons plain (code "+") [] plain_signs.0 refl)
imaginary_other x f h ImaginaryAt.minus_one = plain-not x f.0 (code "-" ∷ []) (all_cons plain (code "-") [] plain_signs.1 refl)

pub i_other : {c : ℕ} → Letter "i" c → (other (code "@") c ≡ true) × (other (code "#") c ≡ true) × (is_sign c ≡ false)
unfolding is_sign
i_other {c} (Letter.letter h) = go (lower_is c (code "i") h)
  where
    go : (c ≡ code "i") ⊎ UpperOf c (code "i") → (other (code "@") c ≡ true) × (other (code "#") c ≡ true) × (is_sign c ≡ false)
    go (inl e) = rw e (refl, refl, refl)
    go (inr e) = let z : c ≡ code "I" = omega arith in rw z (refl, refl, refl)

-- the walk to the joining sign
abbrev pub free : ℕ → Bool
free c = not (is_sign c)

unfoldable pub quiet : ℕ → Bool
quiet c = if is_sign c then false else not (exponent_marker c)

unfoldable pub walk : ℕ → Bool → List ℕ → ℕ
walk R skip s = if eqb R 16 then span free s else to_sign skip s

pub joint_cons : (R c : ℕ) (t : List ℕ) → joint R (c ∷ t) ≡ 1 + walk R (exponent_marker c) t
unfolding joint walk starts_e
joint_cons R c t = by_bool (eqb R 16) (λ e. rw e) (λ e. rw e)

to_sign-quiet : (a y : List ℕ) → all quiet a ≡ true → to_sign false (a ++ y) ≡ length a + to_sign false y
unfolding to_sign quiet is_sign
to_sign-quiet [] y h = sym (zero-add (to_sign false y))
to_sign-quiet (c ∷ a) y h =
    let q : quiet c ≡ true = all_head quiet c a h in
    let r = to_sign-quiet a y (all_tail quiet c a h) in
    by_bool (eqb c (code "+")) (λ e. yes_no (sym (rw e at q))) (λ e.
    by_bool (eqb c (code "-")) (λ f. yes_no (sym (rw (e, f) at q))) (λ f.
    by_bool (exponent_marker c) (λ g. yes_no (sym (rw (e, f, g) at q))) (λ g. rw (e, f, g) (ap suc r ∙ omega arith))))

-- a character that is no sign
to_sign_free : (c : ℕ) (t : List ℕ) → is_sign c ≡ false → to_sign false (c ∷ t) ≡ suc (to_sign (exponent_marker c) t)
unfolding to_sign is_sign
to_sign_free c t h = by_bool (eqb c (code "+")) (λ e. yes_no (rw e at h)) (λ e. by_bool (eqb c (code "-")) (λ f. yes_no (rw (e, f) at h)) (λ f. rw (e, f)))

walk_free : (R c : ℕ) (t : List ℕ) → is_sign c ≡ false → walk R false (c ∷ t) ≡ 1 + walk R (exponent_marker c) t
unfolding walk span
walk_free R c t h = by_bool (eqb R 16) (λ e. rw (e, h) (omega arith)) (λ e. rw (e, to_sign_free c t h) (omega arith))

walk_sign : (R c : ℕ) (t : List ℕ) → is_sign c ≡ true → walk R false (c ∷ t) ≡ 0
unfolding walk span to_sign is_sign
walk_sign R c t h = by_bool (eqb R 16) (λ e. rw (e, h)) (λ e. by_bool (eqb c (code "+")) (λ f. rw (e, f)) (λ f. by_bool (eqb c (code "-")) (λ g. rw (e, f, g)) (λ g. yes_no (sym (rw (f, g) at h)))))

pub digit_sign : (R c : ℕ) → R ≤ 16 → digit_of c < R → is_sign c ≡ false
unfolding is_sign digit_of within
digit_sign R c h d = simp (ne_eqb c (code "+") (digit_differs R c (code "+") d h), ne_eqb c (code "-") (digit_differs R c (code "-") d h))

digit_quiet : (R c : ℕ) → R ≤ 10 → is_a_digit R c ≡ true → quiet c ≡ true
unfolding quiet exponent_marker digit_of within
digit_quiet R c h e =
    let d : digit_of c < R = ltb-true (digit_of c) R e in
    simp (digit_sign R c (omega arith) d, ne_eqb c (code "e") (digit_differs R c (code "e") d (omega arith)), ne_eqb c (code "E") (digit_differs R c (code "E") d (omega arith)))

quiet_digits : {R : ℕ} {s : List ℕ} → R ≤ 10 → Digits R s → all quiet s ≡ true
quiet_digits {R} {s} h d = all_imp (is_a_digit R) quiet (λ c. digit_quiet R c h) s (digits-all d)

pub free_digits : {R : ℕ} {s : List ℕ} → R ≤ 16 → Digits R s → all free s ≡ true
free_digits {R} {s} h d = all_imp (is_a_digit R) free (λ c e. ap not (digit_sign R c h (ltb-true (digit_of c) R e))) s (digits-all d)

pub marks : (quiet (code ".") ≡ true) × (quiet (code "/") ≡ true) × (free (code "/") ≡ true)
unfolding quiet is_sign exponent_marker
marks = (refl, refl, refl)

-- an exponent's sign is passed over
e_free : {c : ℕ} → Letter "e" c → is_sign c ≡ false
unfolding is_sign
e_free {c} (Letter.letter h) = go (lower_is c (code "e") h)
  where
    go : (c ≡ code "e") ⊎ UpperOf c (code "e") → is_sign c ≡ false
    go (inl e) = rw e
    go (inr e) = let z : c ≡ code "E" = omega arith in rw z

e_walk : {c : ℕ} (t : List ℕ) → Letter "e" c → to_sign false (c ∷ t) ≡ suc (to_sign true t)
e_walk {c} t m = to_sign_free c t (e_free m) ∙ ap (λ (b : Bool). suc (to_sign b t)) (marker_e m)

to_sign_skip : (c : ℕ) (t : List ℕ) → to_sign true (c ∷ t) ≡ suc (to_sign false t)
unfolding to_sign
to_sign_skip c t = refl

suffix_walk : {p : ℕ} {x : List ℕ} {e : Exponent} (y : List ℕ) → SuffixAt p x e → to_sign false (x ++ y) ≡ length x + to_sign false y
suffix_walk y SuffixAt.empty = sym (zero-add (to_sign false y))
suffix_walk y (SuffixAt.exponent {c = c} m Sign.empty (UInteger.uint {c = k} {s = s} d ds)) =
    e_walk (k ∷ (s ++ y)) m ∙ ap suc (to_sign_skip k (s ++ y)) ∙ omega (arith, to_sign-quiet s y (quiet_digits (lit≤ tt) ds))
suffix_walk y (SuffixAt.exponent {c = c} {d = d} m Sign.positive u) =
    e_walk (code "+" ∷ (d ++ y)) m ∙ ap suc (to_sign_skip (code "+") (d ++ y)) ∙ omega (arith, to_sign-quiet d y (quiet_digits (lit≤ tt) (uint_digits u)))
suffix_walk y (SuffixAt.exponent {c = c} {d = d} m Sign.negative u) =
    e_walk (code "-" ∷ (d ++ y)) m ∙ ap suc (to_sign_skip (code "-") (d ++ y)) ∙ omega (arith, to_sign-quiet d y (quiet_digits (lit≤ tt) (uint_digits u)))

two_walk : (a x y : List ℕ) → all quiet a ≡ true → to_sign false (x ++ y) ≡ length x + to_sign false y → to_sign false (a ++ x ++ y) ≡ length (a ++ x) + to_sign false y
two_walk a x y h e = ap (to_sign false) (append_assoc a x y) ∙ omega (arith, to_sign-quiet a (x ++ y) h, length-append a x)

decimal_walk : {neg : Bool} {p : ℕ} {s : List ℕ} {r : Real} (y : List ℕ) → DecimalAt neg p s r → to_sign false (s ++ y) ≡ length s + to_sign false y
decimal_walk y (DecimalAt.whole {d = d} {c = c} {x = x} u z) = two_walk d (c ∷ x) y (quiet_digits (lit≤ tt) (uint_digits u)) (suffix_walk y z)
decimal_walk y (DecimalAt.point {f = f} {x = x} u z) = two_walk (code "." ∷ f) x y (all_cons quiet (code ".") f marks.0 (quiet_digits (lit≤ tt) (uint_digits u))) (suffix_walk y z)
decimal_walk y (DecimalAt.both {d = d} {f = f} {x = x} u v z) =
    two_walk d (code "." ∷ (f ++ x)) y (quiet_digits (lit≤ tt) (uint_digits u)) (two_walk (code "." ∷ f) x y (all_cons quiet (code ".") f marks.0 (quiet_digits (lit≤ tt) v)) (suffix_walk y z))

pub walk_ten : (R : ℕ) (b : Bool) (s : List ℕ) → R ≤ 10 → walk R b s ≡ to_sign b s
unfolding walk
walk_ten R b s h = rw (ne_eqb R 16 (λ e. omega arith))

pub walk_hex : (R : ℕ) (b : Bool) (s : List ℕ) → R ≡ 16 → walk R b s ≡ span free s
unfolding walk
walk_hex R b s h = rw (eq-eqb R 16 h)

ureal_walk : {R : ℕ} {neg : Bool} {p : ℕ} {s : List ℕ} {r : Real} (y : List ℕ) → Radix R → URealAt R neg p s r → walk R false (s ++ y) ≡ length s + walk R false y
ureal_walk {R} y (inl h) (URealAt.integer {s = s} u) = simp (walk_ten R false (s ++ y) h, walk_ten R false y h) (to_sign-quiet s y (quiet_digits h (uint_digits u)))
ureal_walk {R} y (inl h) (URealAt.rational {a = a} {b = b} u v) =
    simp (walk_ten R false (a ++ code "/" ∷ b ++ y) h, walk_ten R false y h)
    (to_sign-quiet (a ++ code "/" ∷ b) y (all_append quiet a (code "/" ∷ b) (quiet_digits h (uint_digits u)) (all_cons quiet (code "/") b marks.1 (quiet_digits h (uint_digits v)))))
ureal_walk {R} {s = s} y (inl h) (URealAt.decimal e d) = simp (walk_ten R false (s ++ y) h, walk_ten R false y h) (decimal_walk y d)
ureal_walk {R} y (inr h) (URealAt.integer {s = s} u) = simp (walk_hex R false (s ++ y) h, walk_hex R false y h) (span-all free s y (free_digits (omega arith) (uint_digits u)))
ureal_walk {R} y (inr h) (URealAt.rational {a = a} {b = b} u v) =
    simp (walk_hex R false (a ++ code "/" ∷ b ++ y) h, walk_hex R false y h)
    (span-all free (a ++ code "/" ∷ b) y (all_append free a
    (code "/" ∷ b) (free_digits (omega arith) (uint_digits u)) (all_cons free (code "/") b marks.2 (free_digits (omega arith) (uint_digits v)))))
ureal_walk {R} y (inr h) (URealAt.decimal e d) = absurd (omega arith)

-- after a sign, and without one
sign_e : (exponent_marker (code "+") ≡ false) × (exponent_marker (code "-") ≡ false)
unfolding exponent_marker
sign_e = (refl, refl)

head_free : (R c : ℕ) → R ≤ 16 → (digit_of c < R) ⊎ (c ≡ code ".") → is_sign c ≡ false
unfolding is_sign
head_free R c h (inl d) = digit_sign R c h d
head_free R c h (inr e) = rw e

head_joint : (R : ℕ) (s y : List ℕ) → R ≤ 16 → Head R s → joint R (s ++ y) ≡ walk R false (s ++ y)
head_joint R s y h d = rw d.2 (joint_cons R d.0 (d.1 ++ y) ∙ sym (walk_free R d.0 (d.1 ++ y) (head_free R d.0 h d.3)))

plus_joint : (R : ℕ) (t : List ℕ) → joint R (code "+" ∷ t) ≡ 1 + walk R false t
plus_joint R t = rw (joint_cons R (code "+") t, sign_e.0)

minus_joint : (R : ℕ) (t : List ℕ) → joint R (code "-" ∷ t) ≡ 1 + walk R false t
minus_joint R t = rw (joint_cons R (code "-") t, sign_e.1)

signed_joint : {R p : ℕ} {g s : List ℕ} {n : Bool} {r : Real} (y : List ℕ) → Radix R → Sign g n → URealAt R n p s r → joint R (g ++ s ++ y) ≡ length (g ++ s) + walk R false y
signed_joint {R} {s = s} y h Sign.empty u = head_joint R s y (radix_le h) (head_ureal u) ∙ ureal_walk y h u
signed_joint {R} {s = s} y h Sign.positive u = plus_joint R (s ++ y) ∙ omega (arith, ureal_walk y h u)
signed_joint {R} {s = s} y h Sign.negative u = minus_joint R (s ++ y) ∙ omega (arith, ureal_walk y h u)

-- <infnan>: a sign, then neither sign nor e
low_quiet : (c : ℕ) → quiet (lower c) ≡ true → quiet c ≡ true
unfolding quiet is_sign exponent_marker lower within
low_quiet c h =
    by_bool (eqb c (code "+")) (λ e. yes_no (sym (rw (eqb-true c (code "+") e) at h))) (λ e.
    by_bool (eqb c (code "-")) (λ f. yes_no (sym (rw (eqb-true c (code "-") f) at h))) (λ f.
    by_bool (eqb c (code "e")) (λ g. yes_no (sym (rw (eqb-true c (code "e") g) at h))) (λ g.
    by_bool (eqb c (code "E")) (λ i. yes_no (sym (rw (eqb-true c (code "E") i) at h))) (λ i. rw (e, f, g, i)))))

abbrev Quiet : List ℕ → Type 0
Quiet s = (c : ℕ) × (t : List ℕ) × (s ≡ c ∷ t) × (is_sign c ≡ true) × (all quiet t ≡ true)

word_quiet : (s : List ℕ) (x : ℕ) (w : List ℕ) → map lower s ≡ x ∷ w → (x ≡ code "+") ⊎ (x ≡ code "-") → all quiet w ≡ true → Quiet s
unfolding is_sign
word_quiet [] x w e i h = impossible cc
word_quiet (c ∷ t) x w e i h =
    let a : lower c ≡ x = cc in
    let b : map lower t ≡ w = cc in
    (c, t, refl, go i (lower_is c x a), all_imp (λ d. quiet (lower d)) quiet low_quiet t (low_all quiet t (rw b h)))
  where
    go : (x ≡ code "+") ⊎ (x ≡ code "-") → (c ≡ x) ⊎ UpperOf c x → is_sign c ≡ true
    go (inl p) (inl q) = rw (q, p)
    go (inr p) (inl q) = rw (q, p)
    go (inl p) (inr q) = absurd (omega arith)
    go (inr p) (inr q) = absurd (omega arith)

pub infnan_quiet : {s : List ℕ} {r : Real} → Infnan s r → Quiet s
unfolding all quiet is_sign exponent_marker
infnan_quiet {s} (Infnan.inf e) = word_quiet s _ _ e (inl refl) refl
infnan_quiet {s} (Infnan.minus_inf e) = word_quiet s _ _ e (inr refl) refl
infnan_quiet {s} (Infnan.nan e) = word_quiet s _ _ e (inl refl) refl
infnan_quiet {s} (Infnan.minus_nan e) = word_quiet s _ _ e (inr refl) refl

pub quiet-free : (c : ℕ) → quiet c ≡ true → free c ≡ true
unfolding quiet
quiet-free c h = by_bool (is_sign c) (λ e. yes_no (sym (rw e at h))) (λ e. ap not e)

pub sign_marker : (c : ℕ) → is_sign c ≡ true → exponent_marker c ≡ false
unfolding is_sign exponent_marker
sign_marker c h = by_bool (eqb c (code "+")) (λ e. rw (eqb-true c (code "+") e)) (λ e. by_bool (eqb c (code "-")) (λ f. rw (eqb-true c (code "-") f)) (λ f. yes_no (sym (rw (e, f) at h))))

quiet_joint : (R : ℕ) (s y : List ℕ) → Quiet s → joint R (s ++ y) ≡ length s + walk R false y
unfolding walk
quiet_joint R s y q =
    rw q.2 (joint_cons R q.0 (q.1 ++ y) ∙ ap (λ (b : Bool). 1 + walk R b (q.1 ++ y)) (sign_marker q.0 q.3) ∙
    by_bool (eqb R 16)
    (λ e. rw e (omega (arith, span-all free q.1 y (all_imp quiet free quiet-free q.1 q.4))))
    (λ e. rw e (omega (arith, to_sign-quiet q.1 y q.4))))

pub real_joint : {R p : ℕ} {s : List ℕ} {r : Real} (y : List ℕ) → Radix R → RealAt R p s r → joint R (s ++ y) ≡ length s + walk R false y
real_joint y h (RealAt.ureal g u) = signed_joint y h g u
real_joint {R} {s = s} y h (RealAt.infnan i) = quiet_joint R s y (infnan_quiet i)

pub imaginary_joint : {R p : ℕ} {s : List ℕ} {r : Real} (y : List ℕ) → Radix R → ImaginaryAt R p s r → joint R (s ++ y) ≡ length s + walk R false y
imaginary_joint y h (ImaginaryAt.positive u) = signed_joint y h Sign.positive u
imaginary_joint y h (ImaginaryAt.negative u) = signed_joint y h Sign.negative u
imaginary_joint {R} {s = s} y h (ImaginaryAt.infnan i) = quiet_joint R s y (infnan_quiet i)
imaginary_joint {R} y h ImaginaryAt.one = plus_joint R y
imaginary_joint {R} y h ImaginaryAt.minus_one = minus_joint R y

-- an imaginary part starts with a sign
abbrev pub Signed : List ℕ → Type 0
Signed s = (c : ℕ) × (t : List ℕ) × (s ≡ c ∷ t) × (is_sign c ≡ true)

pub imaginary_signed : {R p : ℕ} {s : List ℕ} {r : Real} → ImaginaryAt R p s r → Signed s
unfolding is_sign
imaginary_signed (ImaginaryAt.positive {s = s} u) = (code "+", s, refl, refl)
imaginary_signed (ImaginaryAt.negative {s = s} u) = (code "-", s, refl, refl)
imaginary_signed (ImaginaryAt.infnan i) = let q = infnan_quiet i in (q.0, q.1, q.2, q.3)
imaginary_signed ImaginaryAt.one = (code "+", [], refl, refl)
imaginary_signed ImaginaryAt.minus_one = (code "-", [], refl, refl)

pub signed_walk : (R : ℕ) (s y : List ℕ) → Signed s → walk R false (s ++ y) ≡ 0
signed_walk R s y d = rw d.2 (walk_sign R d.0 (d.1 ++ y) d.3)

pub signed_sign : (s y : List ℕ) → Signed s → sign (s ++ y) ≡ 0 → ⊥
unfolding sign is_sign
signed_sign s y d e = go (rw d.2 at e) d.3
  where
    go : sign (d.0 ∷ (d.1 ++ y)) ≡ 0 → is_sign d.0 ≡ true → ⊥
    go q h = by_bool (eqb d.0 (code "+")) (λ f. omega (arith, rw f at q)) (λ f. by_bool (eqb d.0 (code "-")) (λ g. omega (arith, rw (f, g) at q)) (λ g. yes_no (sym (rw (f, g) at h))))

pub walk_i : (R : ℕ) {c : ℕ} → Letter "i" c → walk R false (c ∷ []) ≡ 1
unfolding walk span to_sign
walk_i R {c} m = walk_free R c [] (i_other m).2 ∙ by_bool (eqb R 16) (λ e. rw e) (λ e. rw e (last (exponent_marker c)))
  where
    last : (b : Bool) → 1 + to_sign b [] ≡ 1
    last true = refl
    last false = refl
