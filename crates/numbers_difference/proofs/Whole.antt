-- The second reader is the grammar: a text is accepted with these parts exactly if <number> derives it with these parts.
use mathlib.Core.Bool.{Bool, false, not, true}
use mathlib.Core.List.{List, [], ◌++◌, ◌∷◌, append-nil, map}
use Prim.Native.Nat.{◌+◌, ◌-◌, ◌<◌, ◌≤◌, suc, zero, ℕ}
use mathlib.Core.Path.{◌∙◌, ◌≡◌, ap, refl, subst, sym}
use mathlib.Core.Logic.{◌⊎◌, inl, inr}
use native.Mathlib.Nat.{add-zero}
use native.Mathlib.Omega.{arith}
use lib.ListN.{drop, length, length-append, length-map, take, take-append-drop}
use lib.Seq.{drop-append-add, drop-append_seam, drop_at, length-take-le, take-append_seam, take_at}
use borrow.Author.Tests.{eq-eqb, eqb-false, eqb-true, le-ltb, lt-ltb, ltb-true, ne_eqb}
use lib.Dec.{eqb, lit≤, ltb}
use Rattle.numbers.specs.declared.Parts.TheVariants.{Complex, Just, Polar}
use Rattle.numbers.specs.declared.Real.TheVariants.{ImpliedZero}
use Rattle.numbers.specs.declared.Parts.{Parts}
use Rattle.numbers.specs.declared.Real.{Real}
use Rattle.numbers_standard.proofs.Letters.{UpperOf, lower_is}
use Rattle.numbers_standard.specs.Grammar.{alone_of, complex, ends_i, imaginary, joint, number_parts, pair_of, rectangular}
use Rattle.laws.specs.Texts.{before, span, starts}
use Rattle.laws.proofs.Choice.{by_bool, yes_no, impossible}
use Rattle.laws.specs.Quoted.{code, within}
use Rattle.numbers.specs.Grammar.{complex_of, init, just_of, polar_of, prefix, radix_mark, to_sign}
use Rattle.digits.specs.Digits.{digit_of, sign}
use Rattle.numbers.specs.Reals.{exponent_marker}
use Rattle.std.specs.Prelude.{if◌then◌else◌, None, Option, Some}
use Rattle.laws.specs.Letters.{is_sign, lower, to_lower}
use Rattle.numbers_standard.specs.Reals.{real}
use Rattle.numbers_difference.specs.R7rs.{ComplexAt, ImaginaryAt, Infnan, Number, RealAt}
use Rattle.numbers_difference.specs.Productions.{Letter, Prefix}
use Rattle.numbers_difference.proofs.Walk.{Radix, Signed, all_nil, foreign_at, foreign_hash, free, i_other, imaginary_joint, imaginary_other}
use Rattle.numbers_difference.proofs.Walk.{imaginary_signed, joint_cons, other, radix_le, real_joint, real_other, signed_sign, signed_walk, walk, walk_i}
use Rattle.numbers_difference.proofs.Runs.{all, all_append, all_cons, all_head, all_tail, before_here, before_none, before_split}
use Rattle.numbers_difference.proofs.Sound.{imaginary_inv, real_inv}
use Rattle.numbers_difference.proofs.Derived.{imaginary_is, plain, plain_sign, plain_ureal, real_is}

-- the last character
ends_snoc : (s : List ℕ) (c : ℕ) → ends_i (s ++ c ∷ []) ≡ eqb (lower c) (code "i")
unfolding ends_i starts
ends_snoc s c = rw (drop_at s (c ∷ []) (length (s ++ c ∷ []) - 1) (omega (arith, length-append s (c ∷ []))))

pub ends_i_lem : {c : ℕ} (s : List ℕ) → Letter "i" c → ends_i (s ++ c ∷ []) ≡ true
ends_i_lem {c} s (Letter.letter h) = ends_snoc s c ∙ eq-eqb (lower c) (code "i") h

pub init_snoc : (s : List ℕ) (c : ℕ) → init (s ++ c ∷ []) ≡ s
init_snoc s c = take_at s (c ∷ []) (length (s ++ c ∷ []) - 1) (omega (arith, length-append s (c ∷ [])))

-- every list but the empty one has a last character
pub snoc : (s : List ℕ) → (s ≡ [] → ⊥) → (t : List ℕ) × (c : ℕ) × (s ≡ t ++ c ∷ [])
snoc [] h = absurd (h refl)
snoc (x ∷ []) h = ([], x, refl)
snoc (x ∷ y ∷ s) h = let r = snoc (y ∷ s) (λ e. ne y s e) in (x ∷ r.0, r.1, ap (λ (z : List ℕ). x ∷ z) r.2)
  where
    ne : (y : ℕ) (s : List ℕ) → y ∷ s ≡ [] → ⊥
    ne y s e = impossible cc

-- a <real R> does not end in i
all_back : (f : ℕ → Bool) (a b : List ℕ) → all f (a ++ b) ≡ true → all f b ≡ true
all_back f [] b h = h
all_back f (c ∷ a) b h = all_back f a b (all_tail f c (a ++ b) h)

plain_i : (c : ℕ) → plain c ≡ true → eqb (lower c) (code "i") ≡ false
unfolding plain is_sign digit_of within
plain_i c h = ne_eqb (lower c) (code "i") (λ e. go (lower_is c (code "i") e))
  where
    go : (c ≡ code "i") ⊎ UpperOf c (code "i") → ⊥
    go (inl e) = yes_no (sym (rw e at h))
    go (inr e) = let z : c ≡ code "I" = omega arith in yes_no (sym (rw z at h))

plain_ends : (s : List ℕ) → all plain s ≡ true → ends_i s ≡ false
unfolding ends_i starts
plain_ends [] h = refl
plain_ends (x ∷ s) h = go (snoc (x ∷ s) (λ e. ne e))
  where
    ne : x ∷ s ≡ [] → ⊥
    ne e = impossible cc

    go : (t : List ℕ) × (c : ℕ) × (x ∷ s ≡ t ++ c ∷ []) → ends_i (x ∷ s) ≡ false
    go r = ap ends_i r.2 ∙ ends_snoc r.0 r.1 ∙ plain_i r.1 (all_head plain r.1 [] (all_back plain r.0 (r.1 ∷ []) (rw r.2 at h)))

low_drop : (k : ℕ) (s : List ℕ) → map lower (drop k s) ≡ drop k (map lower s)
low_drop zero s = refl
low_drop (suc k) [] = refl
low_drop (suc k) (c ∷ s) = low_drop k s

low_ends : (s w : List ℕ) → map lower s ≡ w → starts (code "i") (drop (length w - 1) w) ≡ false → ends_i s ≡ false
unfolding ends_i
low_ends s w e h =
    let l : length s ≡ length w = sym (length-map s lower) ∙ ap length e in
    rw (low_drop (length s - 1) s, e, l) h

infnan_ends : {s : List ℕ} {r : Real} → Infnan s r → ends_i s ≡ false
unfolding starts
infnan_ends {s} (Infnan.inf e) = low_ends s _ e refl
infnan_ends {s} (Infnan.minus_inf e) = low_ends s _ e refl
infnan_ends {s} (Infnan.nan e) = low_ends s _ e refl
infnan_ends {s} (Infnan.minus_nan e) = low_ends s _ e refl

pub ends_not : {R p : ℕ} {s : List ℕ} {r : Real} → R ≤ 16 → RealAt R p s r → ends_i s ≡ false
ends_not h (RealAt.ureal {g = g} {s = s} z u) = plain_ends (g ++ s) (all_append plain g s (plain_sign z) (plain_ureal h u))
ends_not h (RealAt.infnan i) = infnan_ends i

-- <complex R>: what is derived is read
pub complex_is : {R p : ℕ} {s : List ℕ} {a : Parts} → Radix R → ComplexAt R p s a → complex R p s ≡ Some a
unfolding complex rectangular alone_of pair_of just_of polar_of complex_of
complex_is {R} {p} h (ComplexAt.real {s = s} {r = r} d) =
    let l = radix_le h in
    let j : ltb (joint R s) (length s) ≡ false = le-ltb (joint R s) (length s) (omega (arith, simp append-nil at (real_joint [] h d))) in
    simp (before_none (code "@") s (real_other (code "@") foreign_at l d), j, ends_not l d, real_is l d)
complex_is {R} {p} h (ComplexAt.polar {a = a} {b = b} d e) =
    let l = radix_le h in
    let k : before (code "@") (a ++ code "@" ∷ b) ≡ length a = before_here (code "@") a b (real_other (code "@") foreign_at l d) in
    simp (
      k,
      lt-ltb (length a) (length (a ++ code "@" ∷ b)) (omega (arith, length-append a (code "@" ∷ b))),
      take-append_seam a (code "@" ∷ b),
      drop-append-add a (code "@" ∷ b) 1,
      real_is l d,
      real_is l e,
    )
complex_is {R} {p} h (ComplexAt.rectangular {a = a} {b = b} {c = c} d e m) =
    let l = radix_le h in
    let k : joint R (a ++ (b ++ c ∷ [])) ≡ length a = real_joint (b ++ c ∷ []) h d ∙ ap (λ (n : ℕ). length a + n) (signed_walk R b (c ∷ []) (imaginary_signed e)) ∙ add-zero (length a) in
    let o : all (λ x. not (eqb x (code "@"))) (a ++ (b ++ c ∷ [])) ≡ true =
    all_append (other (code "@")) a (b ++ c ∷ []) (real_other (code "@") foreign_at l d) (all_append (other (code "@")) b
    (c ∷ []) (imaginary_other (code "@") foreign_at l e) (all_cons (other (code "@")) c [] (i_other m).0 (all_nil (other (code "@"))))) in
    simp (
      before_none (code "@") (a ++ (b ++ c ∷ [])) o,
      k,
      lt-ltb (length a) (length (a ++ (b ++ c ∷ []))) (omega (arith, length-append a (b ++ c ∷ []), length-append b (c ∷ []))),
      take-append_seam a (b ++ c ∷ []),
      drop-append_seam a (b ++ c ∷ []),
      ends_i_lem b m,
      init_snoc b c,
      real_is l d,
      imaginary_is l e,
    )
complex_is {R} {p} h (ComplexAt.imaginary {b = b} {c = c} e m) =
    let l = radix_le h in
    let k : ltb (joint R (b ++ c ∷ [])) (length (b ++ c ∷ [])) ≡ false =
    le-ltb (joint R (b ++ c ∷ [])) (length (b ++ c ∷ [])) (omega (arith, imaginary_joint (c ∷ []) h e, length-append b (c ∷ []), walk_i R m)) in
    let o : all (λ x. not (eqb x (code "@"))) (b ++ c ∷ []) ≡ true = all_append (other (code "@")) b
    (c ∷ []) (imaginary_other (code "@") foreign_at l e) (all_cons (other (code "@")) c [] (i_other m).0 (all_nil (other (code "@")))) in
    simp (before_none (code "@") (b ++ c ∷ []) o, k, ends_i_lem b m, ne_eqb (sign (b ++ c ∷ [])) 0 (signed_sign b (c ∷ []) (imaginary_signed e)), init_snoc b c, imaginary_is l e)

-- what is read is derived
pub no_parts : {A : Type 0} {a : Parts} → None ≡ Some a → A
no_parts e = impossible cc

ends_split : (s : List ℕ) → ends_i s ≡ true → (c : ℕ) × Letter "i" c × (s ≡ init s ++ c ∷ [])
unfolding ends_i starts
ends_split [] h = yes_no (sym h)
ends_split (x ∷ s) h = go (snoc (x ∷ s) (λ e. ne e))
  where
    ne : x ∷ s ≡ [] → ⊥
    ne e = impossible cc

    go : (t : List ℕ) × (c : ℕ) × (x ∷ s ≡ t ++ c ∷ []) → (c : ℕ) × Letter "i" c × (x ∷ s ≡ init (x ∷ s) ++ c ∷ [])
    go r =
        let q : ends_i (r.0 ++ r.1 ∷ []) ≡ true = ap ends_i (sym r.2) ∙ h in (
          r.1,
          Letter.letter (eqb-true (lower r.1) (code "i") (sym (ends_snoc r.0 r.1) ∙ q)),
          r.2 ∙ ap (λ (y : List ℕ). y ++ r.1 ∷ []) (sym (init_snoc r.0 r.1) ∙ ap init (sym r.2)),
        )

sign_zero : (c : ℕ) (t : List ℕ) → is_sign c ≡ true → sign (c ∷ t) ≡ 0 → ⊥
unfolding sign is_sign
sign_zero c t h e = by_bool (eqb c (code "+")) (λ f. omega (arith, rw f at e)) (λ f. by_bool (eqb c (code "-")) (λ g. omega (arith, rw (f, g) at e)) (λ g. yes_no (sym (rw (f, g) at h))))

-- a signed part that ends in i: its sign stands before the i
init-sign : (c : ℕ) (t : List ℕ) → is_sign c ≡ true → ends_i (c ∷ t) ≡ true → sign (init (c ∷ t)) ≡ 0 → ⊥
unfolding ends_i starts is_sign lower within
init-sign c [] h k e = by_bool (eqb c (code "+")) (λ f. yes_no (sym (rw (eqb-true c (code "+") f) at k)))
    (λ f. by_bool (eqb c (code "-")) (λ g. yes_no (sym (rw (eqb-true c (code "-") g) at k))) (λ g. yes_no (sym (rw (f, g) at h))))
init-sign c (x ∷ t) h k e = let n : suc (suc (length t)) - 1 ≡ suc (length t) = omega arith in sign_zero c (take (length t) (x ∷ t)) h (rw n at e)

-- where the walk stops, a sign stands
abbrev pub At : ℕ → List ℕ → Type 0
At k s = Signed (drop k s)

to_sign_at : (b : Bool) (s : List ℕ) → to_sign b s < length s → At (to_sign b s) s
unfolding to_sign is_sign
to_sign_at b [] h = absurd (omega arith)
to_sign_at true (c ∷ s) h = to_sign_at false s (omega arith)
to_sign_at false (c ∷ s) h =
    by_bool (eqb c (code "+")) (λ e. rw e (c, s, refl, rw e)) (λ e.
    by_bool (eqb c (code "-")) (λ f. rw (e, f) (c, s, refl, rw (e, f))) (λ f.
    rw (e, f) (to_sign_at (exponent_marker c) s (omega (arith, rw (e, f) at h)))))

span_at_sign : (s : List ℕ) → span free s < length s → At (span free s) s
unfolding span
span_at_sign [] h = absurd (omega arith)
span_at_sign (c ∷ s) h = by_bool (is_sign c) (λ e. rw e (c, s, refl, e)) (λ e. rw e (span_at_sign s (omega (arith, rw e at h))))

walk_at : (R : ℕ) (b : Bool) (t : List ℕ) → walk R b t < length t → At (walk R b t) t
unfolding walk
walk_at R b t h = by_bool (eqb R 16) (λ e. rw e (span_at_sign t (rw e at h))) (λ e. rw e (to_sign_at b t (rw e at h)))

pub joint_at : (R : ℕ) (s : List ℕ) → joint R s < length s → At (joint R s) s
joint_at R [] h = absurd (omega arith)
joint_at R (c ∷ t) h = rw (joint_cons R c t, one) (walk_at R (exponent_marker c) t (omega (arith, rw (joint_cons R c t, one) at h)))
  where
    one : 1 + walk R (exponent_marker c) t ≡ suc (walk R (exponent_marker c) t)
    one = omega arith

pub signed_init : (t : List ℕ) → Signed t → ends_i t ≡ true → sign (init t) ≡ 0 → ⊥
signed_init t d h e = init-sign d.0 d.1 d.3 (sym (ap ends_i d.2) ∙ h) (sym (ap (λ (y : List ℕ). sign (init y)) d.2) ∙ e)

pub sign_signed : (s : List ℕ) → (sign s ≡ 0 → ⊥) → Signed s
unfolding sign is_sign
sign_signed [] h = absurd (h refl)
sign_signed (c ∷ t) h = by_bool (is_sign c) (λ e. (c, t, refl, e))
    (λ e. absurd (h (by_bool (eqb c (code "+")) (λ f. yes_no (rw f at e)) (λ f. by_bool (eqb c (code "-")) (λ g. yes_no (rw (f, g) at e)) (λ g. rw (f, g))))))

complex_of_lem : (R p q : ℕ) (s t : List ℕ) (a : Parts) → R ≤ 16 → (sign t ≡ 0 → ⊥) → complex_of (real R p s) (imaginary R q t) ≡ Some a
    → (x : Real) × (y : Real) × RealAt R p s x × ImaginaryAt R q t y × (a ≡ Complex x y)
unfolding complex_of
complex_of_lem R p q s t a l n h = go (real R p s) refl (imaginary R q t) refl (h)
  where
    go : (u : Option Real) → real R p s ≡ u → (v : Option Real) → imaginary R q t ≡ v → complex_of (real R p s) (imaginary R q t) ≡ Some a
        → (x : Real) × (y : Real) × RealAt R p s x × ImaginaryAt R q t y × (a ≡ Complex x y)
    go (Some x) e (Some y) f k = let k' : Some (Complex x y) ≡ Some a = rw (e, f) at k in let z : a ≡ Complex x y = cc in (x, y, real_inv R p s x e, imaginary_inv R q t y l n f, z)
    go None e v f k = no_parts (rw e at k)
    go (Some x) e None f k = no_parts (rw (e, f) at k)

polar_of_lem : (R p q : ℕ) (s t : List ℕ) (a : Parts) → polar_of (real R p s) (real R q t) ≡ Some a → (x : Real) × (y : Real) × RealAt R p s x × RealAt R q t y × (a ≡ Polar x y)
unfolding polar_of
polar_of_lem R p q s t a h = go (real R p s) refl (real R q t) refl h
  where
    go : (u : Option Real) → real R p s ≡ u → (v : Option Real) → real R q t ≡ v → polar_of (real R p s) (real R q t) ≡ Some a
        → (x : Real) × (y : Real) × RealAt R p s x × RealAt R q t y × (a ≡ Polar x y)
    go (Some x) e (Some y) f k = let k' : Some (Polar x y) ≡ Some a = rw (e, f) at k in let z : a ≡ Polar x y = cc in (x, y, real_inv R p s x e, real_inv R q t y f, z)
    go None e v f k = no_parts (rw e at k)
    go (Some x) e None f k = no_parts (rw (e, f) at k)

-- the five with an imaginary part alone, and <real R>
alone_inv : (R p : ℕ) (s : List ℕ) (a : Parts) → R ≤ 16 → alone_of R p s ≡ Some a → ComplexAt R p s a
unfolding alone_of just_of complex_of
alone_inv R p s a l h =
    by_bool (ends_i s)
    (λ e. by_bool (eqb (sign s) 0) (λ f. no_parts (rw (e, f) at h)) (λ f. imag e (λ q. eqb-false (sign s) 0 f q) (imaginary R p (init s)) refl (rw (e, f) at h)))
    (λ e. one (real R p s) refl (rw e at h))
  where
    one : (u : Option Real) → real R p s ≡ u → just_of (real R p s) ≡ Some a → ComplexAt R p s a
    one (Some x) f k = let k' : Some (Just x) ≡ Some a = rw f at k in let z : a ≡ Just x = cc in rw z (ComplexAt.real (real_inv R p s x f))
    one None f k = no_parts (rw f at k)

    imag : ends_i s ≡ true → (sign s ≡ 0 → ⊥) → (u : Option Real) → imaginary R p (init s) ≡ u → complex_of (Some ImpliedZero) (imaginary R p (init s)) ≡ Some a → ComplexAt R p s a
    imag e n (Some y) f k =
        let k' : Some (Complex ImpliedZero y) ≡ Some a = rw f at k in
        let z : a ≡ Complex ImpliedZero y = cc in
        let w = ends_split s e in
        let i = imaginary_inv R p (init s) y l (signed_init s (sign_signed s n) e) f in
        subst (λ (x : List ℕ). ComplexAt R p x a) (sym w.2) (rw z (ComplexAt.imaginary i w.1))
    imag e n None f k = no_parts (rw f at k)

-- the five with a real and an imaginary part, cut before a sign
pair_inv : (R p k : ℕ) (s : List ℕ) (a : Parts) → R ≤ 16 → k < length s → At k s → pair_of R p k s ≡ Some a → ComplexAt R p s a
unfolding pair_of
pair_inv R p k s a l m g h = by_bool (ends_i (drop k s)) (λ e. two e (rw e at h)) (λ e. no_parts (rw e at h))
  where
    two : ends_i (drop k s) ≡ true → complex_of (real R p (take k s)) (imaginary R (p + k) (init (drop k s))) ≡ Some a → ComplexAt R p s a
    two e j =
        let w = ends_split (drop k s) e in
        let t = complex_of_lem R p (p + k) (take k s) (init (drop k s)) a l (signed_init (drop k s) g e) j in
        let n : length (take k s) ≡ k = length-take-le k s (omega arith) in
        let i : ImaginaryAt R (p + length (take k s)) (init (drop k s)) t.1 = rw n t.3 in
        let c : ComplexAt R p (take k s ++ (init (drop k s) ++ w.0 ∷ [])) a = rw t.4 (ComplexAt.rectangular t.2 i w.1) in
        let q : take k s ++ (init (drop k s) ++ w.0 ∷ []) ≡ s = ap (λ (y : List ℕ). take k s ++ y) (sym w.2) ∙ take-append-drop k s in
        subst (λ (x : List ℕ). ComplexAt R p x a) q c

pub complex_inv : (R p : ℕ) (s : List ℕ) (a : Parts) → R ≤ 16 → complex R p s ≡ Some a → ComplexAt R p s a
unfolding complex rectangular
complex_inv R p s a l h =
    by_bool (ltb (before (code "@") s) (length s)) (λ e. polar e (rw e at h)) (λ e.
    by_bool (ltb (joint R s) (length s)) (λ f. pair_inv R p (joint R s) s a l (ltb-true (joint R s) (length s) f) (joint_at R s (ltb-true (joint R s) (length s) f)) (rw (e, f) at h)) (λ f.
    alone_inv R p s a l (rw (e, f) at h)))
  where
    polar : ltb (before (code "@") s) (length s) ≡ true → polar_of (real R p (take (before (code "@") s) s))
        (real R (p + before (code "@") s + 1) (drop (before (code "@") s + 1) s)) ≡ Some a → ComplexAt R p s a
    polar e j =
        let t = polar_of_lem R p (p + before (code "@") s + 1) (take (before (code "@") s) s) (drop (before (code "@") s + 1) s) a j in
        let n : length (take (before (code "@") s) s) ≡ before (code "@") s = length-take-le (before (code "@") s) s (omega (arith, ltb-true (before (code "@") s) (length s) e)) in
        let y : RealAt R (p + length (take (before (code "@") s) s) + 1) (drop (before (code "@") s + 1) s) t.1 = rw n t.3 in
        let c : ComplexAt R p (take (before (code "@") s) s ++ code "@" ∷ drop (before (code "@") s + 1) s) a = rw t.4 (ComplexAt.polar t.2 y) in
        subst (λ (x : List ℕ). ComplexAt R p x a) (sym (before_split (code "@") s e)) c

-- <prefix R>
no_hash : (s : List ℕ) → all (other (code "#")) s ≡ true → prefix s ≡ 0
unfolding prefix
no_hash [] h = refl
no_hash (c ∷ s) h = rw (ne_eqb c (code "#") (λ e. yes_no (sym (all_head (other (code "#")) c s h) ∙ ap not (eq-eqb c (code "#") e))))

complex_hash : {R p : ℕ} {s : List ℕ} {a : Parts} → R ≤ 16 → ComplexAt R p s a → all (other (code "#")) s ≡ true
unfolding all
complex_hash l (ComplexAt.real d) = real_other (code "#") foreign_hash l d
complex_hash l (ComplexAt.polar {a = a} {b = b} d e) = all_append (other (code "#")) a (code "@" ∷ b) (real_other (code "#") foreign_hash l d) (real_other (code "#") foreign_hash l e)
complex_hash l (ComplexAt.rectangular {a = a} {b = b} {c = c} d e m) =
    all_append (other (code "#")) a (b ++ c ∷ []) (real_other (code "#") foreign_hash l d)
    (all_append (other (code "#")) b (c ∷ []) (imaginary_other (code "#") foreign_hash l e) (all_cons (other (code "#")) c [] (i_other m).1 refl))
complex_hash l (ComplexAt.imaginary {b = b} {c = c} e m) = all_append (other (code "#")) b (c ∷ []) (imaginary_other (code "#") foreign_hash l e) (all_cons (other (code "#")) c [] (i_other m).1 refl)

letter_mark : (c x R : ℕ) → lower c ≡ x → radix_mark x ≡ R → radix_mark (x - to_lower) ≡ R → radix_mark c ≡ R
letter_mark c x R h a b = go (lower_is c x h)
  where
    go : (c ≡ x) ⊎ UpperOf c x → radix_mark c ≡ R
    go (inl e) = ap radix_mark e ∙ a
    go (inr e) = let z : c ≡ x - to_lower = omega arith in ap radix_mark z ∙ b

pub prefix_radix : {R : ℕ} {g : List ℕ} → Prefix R g → Radix R
prefix_radix Prefix.empty = inl (lit≤ tt)
prefix_radix (Prefix.binary m) = inl (lit≤ tt)
prefix_radix (Prefix.octal m) = inl (lit≤ tt)
prefix_radix (Prefix.decimal m) = inl (lit≤ tt)
prefix_radix (Prefix.hex m) = inr refl

-- a prefix of two characters
pub prefix_mark : {R : ℕ} {c : ℕ} → Prefix R (code "#" ∷ c ∷ []) → radix_mark c ≡ R
unfolding radix_mark
prefix_mark {R} {c} (Prefix.binary (Letter.letter m)) = letter_mark c (code "b") 2 m refl refl
prefix_mark {R} {c} (Prefix.octal (Letter.letter m)) = letter_mark c (code "o") 8 m refl refl
prefix_mark {R} {c} (Prefix.decimal (Letter.letter m)) = letter_mark c (code "d") 10 m refl refl
prefix_mark {R} {c} (Prefix.hex (Letter.letter m)) = letter_mark c (code "x") 16 m refl refl

mark_made : (c : ℕ) → (radix_mark c ≡ 0 → ⊥) → Prefix (radix_mark c) (code "#" ∷ c ∷ [])
unfolding radix_mark lower within
mark_made c h =
    by_bool (eqb c (code "x")) (λ e. rw (eqb-true c (code "x") e) (Prefix.hex (Letter.letter refl))) (λ e1.
    by_bool (eqb c (code "X")) (λ e. rw (eqb-true c (code "X") e) (Prefix.hex (Letter.letter refl))) (λ e2.
    by_bool (eqb c (code "d")) (λ e. rw (eqb-true c (code "d") e) (Prefix.decimal (Letter.letter refl))) (λ e3.
    by_bool (eqb c (code "D")) (λ e. rw (eqb-true c (code "D") e) (Prefix.decimal (Letter.letter refl))) (λ e4.
    by_bool (eqb c (code "o")) (λ e. rw (eqb-true c (code "o") e) (Prefix.octal (Letter.letter refl))) (λ e5.
    by_bool (eqb c (code "O")) (λ e. rw (eqb-true c (code "O") e) (Prefix.octal (Letter.letter refl))) (λ e6.
    by_bool (eqb c (code "b")) (λ e. rw (eqb-true c (code "b") e) (Prefix.binary (Letter.letter refl))) (λ e7.
    by_bool (eqb c (code "B")) (λ e. rw (eqb-true c (code "B") e) (Prefix.binary (Letter.letter refl))) (λ e8.
    absurd (h (rw (e1, e2, e3, e4, e5, e6, e7, e8)))))))))))

zero_mark : radix_mark 0 ≡ 0
unfolding radix_mark
zero_mark = refl

abbrev pub Prefixed : List ℕ → Type 0
Prefixed s = (c : ℕ) × (t : List ℕ) × (s ≡ code "#" ∷ c ∷ t) × Prefix (prefix s) (code "#" ∷ c ∷ [])

pub prefix_made : (s : List ℕ) → (prefix s ≡ 0 → ⊥) → Prefixed s
unfolding prefix
prefix_made [] h = absurd (h refl)
prefix_made (x ∷ []) h = absurd (h (nothing (eqb x (code "#"))))
  where
    nothing : (b : Bool) → (if b then radix_mark 0 else 0) ≡ 0
    nothing true = zero_mark
    nothing false = refl
prefix_made (x ∷ c ∷ t) h =
    by_bool (eqb x (code "#"))
    (λ e. rw e (c, t, ap (λ (y : ℕ). y ∷ c ∷ t) (eqb-true x (code "#") e), mark_made c (λ q. h (rw e q))))
    (λ e. absurd (h (rw e)))

pub prefix_hash : (c : ℕ) (t : List ℕ) → prefix (code "#" ∷ c ∷ t) ≡ radix_mark c
unfolding prefix
prefix_hash c t = refl

-- <number>: the prefix is the one that the readers see
abbrev pub Seen : ℕ → List ℕ → List ℕ → Type 0
Seen R g s = ((g ≡ []) × (R ≡ 10) × (prefix (g ++ s) ≡ 0)) ⊎ ((R ≡ 0 → ⊥) × (prefix (g ++ s) ≡ R) × (length g ≡ 2) × (drop 2 (g ++ s) ≡ s))

pub seen : {R : ℕ} {g : List ℕ} (s : List ℕ) → Prefix R g → (all (other (code "#")) s ≡ true) → Seen R g s
seen s Prefix.empty h = inl (refl, refl, no_hash s h)
seen s (Prefix.binary {c = c} m) h = inr ((λ e. omega arith), prefix_hash c s ∙ prefix_mark (Prefix.binary m), refl, refl)
seen s (Prefix.octal {c = c} m) h = inr ((λ e. omega arith), prefix_hash c s ∙ prefix_mark (Prefix.octal m), refl, refl)
seen s (Prefix.decimal {c = c} m) h = inr ((λ e. omega arith), prefix_hash c s ∙ prefix_mark (Prefix.decimal m), refl, refl)
seen s (Prefix.hex {c = c} m) h = inr ((λ e. omega arith), prefix_hash c s ∙ prefix_mark (Prefix.hex m), refl, refl)

pub parts_seen : (R : ℕ) (g s : List ℕ) → Seen R g s → number_parts (g ++ s) ≡ complex R (length g) s
unfolding number_parts
parts_seen R g s (inl e) = rw (e.2, e.1, e.0)
parts_seen R g s (inr e) = rw (e.1, e.3, e.2, ne_eqb R 0 e.0)

-- a text is accepted with these parts exactly if <number> derives it with these parts
pub parts_is : {s : List ℕ} {a : Parts} → Number s a → number_parts s ≡ Some a
parts_is (Number.num {R = R} {g = g} {s = s} m d) =
    parts_seen R g s (seen s m (complex_hash (radix_le (prefix_radix m)) d)) ∙ complex_is (prefix_radix m) d

pub parts_inv : (s : List ℕ) (a : Parts) → number_parts s ≡ Some a → Number s a
unfolding number_parts
parts_inv s a h =
    by_bool (eqb (prefix s) 0) (λ e. Number.num Prefix.empty (complex_inv 10 0 s a (lit≤ tt) (rw e at h))) (λ e.
    marked (prefix_made s (eqb-false (prefix s) 0 e)) (rw e at h))
  where
    marked : Prefixed s → complex (prefix s) 2 (drop 2 s) ≡ Some a → Number s a
    marked m j =
        let d : ComplexAt (prefix s) 2 (drop 2 s) a = complex_inv (prefix s) 2 (drop 2 s) a (radix_le (prefix_radix m.3)) j in
        let n : Number (code "#" ∷ m.0 ∷ drop 2 s) a = Number.num m.3 d in
        let q : (code "#") ∷ m.0 ∷ drop 2 s ≡ s = ap (λ (y : List ℕ). (code "#") ∷ m.0 ∷ drop 2 y) m.2 ∙ sym m.2 in
        subst (λ (y : List ℕ). Number y a) q n

-- the parts are unique
pub unique : {s : List ℕ} {a b : Parts} → Number s a → Number s b → a ≡ b
unique x y = let e = parts_is x in let f = parts_is y in cc
