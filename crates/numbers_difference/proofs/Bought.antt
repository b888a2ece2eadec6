-- What the bought reader reads as <complex R>, the grammar derives, with no capital and no sign after an odd number of e's; or it has a sign below a slash.
use Rattle.std.proofs.Common.{None, Option, Some}
use mathlib.Core.List.{List, [], ◌++◌, ◌∷◌, append-nil, map}
use Prim.Native.Nat.{◌+◌, ◌-◌, ◌<◌, ◌≤◌, suc, ℕ}
use mathlib.Core.Path.{◌∙◌, ◌≡◌, ap, refl, subst, sym}
use mathlib.Core.Logic.{◌⊎◌, inl, inr}
use native.Mathlib.Omega.{arith}
use lib.ListN.{drop, length, length-append, length-drop, take, take-append-drop}
use lib.Seq.{drop_at, drop-drop, length-take-le}
use lib.Dec.{eqb, lit<, ltb}
use borrow.Author.Tests.{eqb-false, eqb-true, ltb-false, ltb-true}
use mathlib.Core.Bool.{false, true}
use Rattle.numbers.specs.declared.Parts.TheVariants.{Complex, Just, Polar}
use Rattle.numbers.specs.declared.Real.TheVariants.{ImpliedOne, ImpliedZero}
use Rattle.numbers.specs.declared.Parts.{Parts}
use Rattle.numbers.specs.declared.Real.{Real}
use Rattle.laws.specs.Texts.{before, same, starts}
use Rattle.laws.proofs.Choice.{by_bool, yes_no, impossible}
use Rattle.laws.specs.Quoted.{code, within}
use Rattle.numbers.specs.Grammar.{complex_of, cut, init, just_of, polar_of, starts_e, to_sign}
use Rattle.numbers_standard.specs.Grammar.{ends_i, joint}
use Rattle.numbers.specs.Reals.{exponent_marker}
use Rattle.laws.specs.Letters.{is_sign, lower}
use Rattle.laws.proofs.Compared.{same_is}
use Rattle.digits.specs.Digits.{sign}
use Rattle.numbers_difference.proofs.Whole.{At, ends_i_lem, init_snoc, joint_at, no_parts, sign_signed, signed_init, snoc}
use Rattle.numbers_difference.specs.R7rs.{ComplexAt, ImaginaryAt, Infnan, RealAt}
use Rattle.numbers_difference.proofs.Derived.{Head, head_ureal, plain_sign}
use Rattle.numbers_difference.specs.Productions.{Letter, Sign}
use Rattle.numbers_difference.proofs.Reals.{Read, below_plain, real_low, real_read}
use Rattle.numbers_difference.proofs.WithParts.{Side}
use Rattle.numbers_difference.specs.Conditions.{SignedBelow, capital, is_capital, is_n, odd_e, sign_after, sign_after_odd_e, somewhere}
use Rattle.numbers_difference.proofs.Runs.{before_split}
use Rattle.numbers_difference.proofs.OddSigns.{below_cut, below_odd, imaginary_odd, mark_facts, odd_hit, odd_next, real_odd, to_sign_odd}
use Rattle.numbers_difference.proofs.Somewhere.{Mark, cap_hit, cap_next, plain-capital, reset_back, reset_join}
use Rattle.numbers_difference.proofs.Sound.{real_imaginary}
use Rattle.numbers_difference.proofs.Walk.{sign_marker}
use Rattle.numbers.specs.Reals as bought
use Rattle.numbers.specs.Grammar as bought-grammar

-- the last character in lower case
pub ends_i_snoc : (s : List ℕ) (c : ℕ) → bought-grammar.ends_i (s ++ c ∷ []) ≡ eqb c (code "i")
unfolding bought-grammar.ends_i starts
ends_i_snoc s c = rw (drop_at s (c ∷ []) (length (s ++ c ∷ []) - 1) (omega (arith, length-append s (c ∷ []))))

ends_i_split : (s : List ℕ) → bought-grammar.ends_i s ≡ true → s ≡ init s ++ code "i" ∷ []
unfolding bought-grammar.ends_i starts
ends_i_split [] h = yes_no (sym h)
ends_i_split (x ∷ s) h = go (snoc (x ∷ s) (λ e. ne e))
  where
    ne : x ∷ s ≡ [] → ⊥
    ne e = impossible cc

    go : (t : List ℕ) × (c : ℕ) × (x ∷ s ≡ t ++ c ∷ []) → x ∷ s ≡ init (x ∷ s) ++ code "i" ∷ []
    go r =
        let q : bought-grammar.ends_i (r.0 ++ r.1 ∷ []) ≡ true = ap bought-grammar.ends_i (sym r.2) ∙ h in
        let c : r.1 ≡ code "i" = eqb-true r.1 (code "i") (sym (ends_i_snoc r.0 r.1) ∙ q) in
        let t : r.0 ≡ init (x ∷ s) = sym (init_snoc r.0 r.1) ∙ ap init (sym r.2) in
        r.2 ∙ ap (λ (y : List ℕ). y ++ r.1 ∷ []) t ∙ ap (λ (y : ℕ). init (x ∷ s) ++ y ∷ []) c

letter_low : Letter "i" (code "i")
unfolding lower within
letter_low = Letter.letter refl

ends_i_both : (s : List ℕ) → bought-grammar.ends_i s ≡ true → ends_i s ≡ true
ends_i_both s h = ap ends_i (ends_i_split s h) ∙ ends_i_lem (init s) letter_low

pub ends_i_no : (s : List ℕ) → ends_i s ≡ false → bought-grammar.ends_i s ≡ false
ends_i_no s h = by_bool (bought-grammar.ends_i s) (λ e. yes_no (sym (ends_i_both s e) ∙ h)) (λ e. e)

joint_ten : (s : List ℕ) → joint 10 s ≡ cut s
unfolding joint
joint_ten s = refl

-- capitals in parts
pub sign_mark : (c : ℕ) → is_sign c ≡ true → Mark c
unfolding is_sign
sign_mark c h = by_bool (eqb c (code "+")) (λ e. inl (eqb-true c (code "+") e)) (λ e. inr (inl (eqb-true c (code "-") (rw e at h))))

pub cap_join : (x : ℕ) → Mark x → (a b : List ℕ) → capital false a ≡ false → capital false b ≡ false → capital false (a ++ x ∷ b) ≡ false
cap_join x h a b p q = reset_join is_capital is_n x (cap_hit x h) (cap_next x h) false a b p q

pub cap_back : (x : ℕ) → Mark x → (a b : List ℕ) → capital false (a ++ x ∷ b) ≡ false → capital false b ≡ false
cap_back x h a b p = reset_back is_capital is_n x (cap_hit x h) (cap_next x h) false a b p

pub cap_nil : capital false [] ≡ false
unfolding somewhere
cap_nil = refl

-- an i after a part
cap_i : (s : List ℕ) → capital false s ≡ false → capital false (s ++ code "i" ∷ []) ≡ false
cap_i s h = cap_join (code "i") (inr (inr (inr (inr refl)))) s [] h cap_nil

odd_nil : sign_after_odd_e false [] ≡ false
unfolding somewhere
odd_nil = refl

odd_i : (s : List ℕ) → sign_after_odd_e false s ≡ false → sign_after_odd_e false (s ++ code "i" ∷ []) ≡ false
odd_i s h = reset_join sign_after odd_e (code "i") (odd_hit (code "i") mark_facts.4) (odd_next (code "i") mark_facts.5) false s [] h odd_nil

-- an imaginary part without its i, read by the bought reader
abbrev ReadI : ℕ → ℕ → List ℕ → Real → Type 0
ReadI R p s r = (ImaginaryAt R p s r × (capital false s ≡ false)) ⊎ SignedBelow R s

imaginary_read : (R p : ℕ) (s : List ℕ) (r : Real) → R ≤ 16 → (sign s ≡ 0 → ⊥) → bought-grammar.imaginary R p s ≡ Some r → ReadI R p s r
unfolding bought-grammar.imaginary
imaginary_read R p s r l n h =
    by_bool (same s (code "+" ∷ [])) (λ e. let q : Some (ImpliedOne false) ≡ Some r = rw e at h in let z : r ≡ ImpliedOne false = cc in
    rw (z, same_is s _ e) (inl (ImaginaryAt.one, plain-capital (code "+" ∷ []) (plain_sign Sign.positive)))) (λ a.
    by_bool (same s (code "-" ∷ [])) (λ e. let q : Some (ImpliedOne true) ≡ Some r = rw (a, e) at h in let z : r ≡ ImpliedOne true = cc in
    rw (z, same_is s _ e) (inl (ImaginaryAt.minus_one, plain-capital (code "-" ∷ []) (plain_sign Sign.negative)))) (λ b.
    go (real_read R p s r l (rw (a, b) at h))))
  where
    go : Read R p s r → ReadI R p s r
    go (inl d) = inl (real_imaginary l d.0 n, d.1)
    go (inr d) = inr d

pub imaginary_low : {R p : ℕ} {s : List ℕ} {r : Real} → R ≤ 16 → ImaginaryAt R p s r → capital false s ≡ false → bought-grammar.imaginary R p s ≡ Some r
unfolding bought-grammar.imaginary same
imaginary_low {R} {p} h (ImaginaryAt.positive {s = s} u) c = let d = head_ureal u in simp (longer s d) (real_low h (RealAt.ureal Sign.positive u) c)
  where
    longer : (s : List ℕ) → Head R s → same s [] ≡ false
    longer s d = rw d.2
imaginary_low {R} {p} h (ImaginaryAt.negative {s = s} u) c = let d = head_ureal u in simp (longer s d) (real_low h (RealAt.ureal Sign.negative u) c)
  where
    longer : (s : List ℕ) → Head R s → same s [] ≡ false
    longer s d = rw d.2
imaginary_low {R} {p} h (ImaginaryAt.infnan {s = s} i) c = simp (not_one s (code "+") i, not_one s (code "-") i) (real_low h (RealAt.infnan i) c)
  where
    short : (s w : List ℕ) (x : ℕ) → map lower s ≡ w → 1 < length w → same s (x ∷ []) ≡ false
    short [] w x e k = refl
    short (c ∷ []) w x e k = absurd (omega (arith, ap length e))
    short (c ∷ d ∷ s) w x e k = by_bool (eqb c x) (λ f. rw f) (λ f. rw f)

    not_one : (s : List ℕ) (x : ℕ) {r : Real} → Infnan s r → same s (x ∷ []) ≡ false
    not_one s x (Infnan.inf e) = short s _ x e (lit< tt)
    not_one s x (Infnan.minus_inf e) = short s _ x e (lit< tt)
    not_one s x (Infnan.nan e) = short s _ x e (lit< tt)
    not_one s x (Infnan.minus_nan e) = short s _ x e (lit< tt)
imaginary_low h ImaginaryAt.one c = refl
imaginary_low h ImaginaryAt.minus_one c = refl

-- what the bought reader reads without @, the grammar derives, with no capital and no sign after an odd number of e's
abbrev Fine : ℕ → ℕ → List ℕ → Parts → Type 0
Fine R p s a = ComplexAt R p s a × (capital false s ≡ false) × (R ≡ 16 → sign_after_odd_e false s ≡ false)

alone_read : (R p : ℕ) (s : List ℕ) (a : Parts) → R ≤ 16 → length s ≤ cut s → bought-grammar.alone_of R p s ≡ Some a → Fine R p s a
unfolding bought-grammar.alone_of just_of complex_of
alone_read R p s a l n h =
    by_bool (bought-grammar.ends_i s)
    (λ e. by_bool (eqb (sign s) 0) (λ f. no_parts (rw (e, f) at h)) (λ f. imag e (eqb-false (sign s) 0 f) (bought-grammar.imaginary R p (init s)) refl (rw (e, f) at h)))
    (λ e. one (bought.real R p s) refl (rw e at h))
  where
    one : (u : Option Real) → bought.real R p s ≡ u → just_of (bought.real R p s) ≡ Some a → Fine R p s a
    one (Some x) f k = let k' : Some (Just x) ≡ Some a = rw f at k in let z : a ≡ Just x = cc in go z (real_read R p s x l f)
      where
        go : a ≡ Just x → Read R p s x → Fine R p s a
        go z (inl d) = (rw z (ComplexAt.real d.0), d.1, λ q. real_odd q d.0)
        go z (inr d) = absurd (omega (arith, rw append-nil at (below_cut [] d)))
    one None f k = no_parts (rw f at k)

    imag : bought-grammar.ends_i s ≡ true → (sign s ≡ 0 → ⊥) → (u : Option Real) → bought-grammar.imaginary R p (init s) ≡ u
        → complex_of (Some ImpliedZero) (bought-grammar.imaginary R p (init s)) ≡ Some a → Fine R p s a
    imag e m (Some y) f k =
        let k' : Some (Complex ImpliedZero y) ≡ Some a = rw f at k in
        let z : a ≡ Complex ImpliedZero y = cc in
        go z (imaginary_read R p (init s) y l (signed_init s (sign_signed s m) (ends_i_both s e)) f)
      where
        w : s ≡ init s ++ code "i" ∷ []
        w = ends_i_split s e

        go : a ≡ Complex ImpliedZero y → ReadI R p (init s) y → Fine R p s a
        go z (inl d) = (
          subst (λ (x : List ℕ). ComplexAt R p x a) (sym w) (rw z (ComplexAt.imaginary d.0 letter_low)),
          ap (capital false) w ∙ cap_i (init s) d.1,
          λ q. ap (sign_after_odd_e false) w ∙ odd_i (init s) (imaginary_odd q d.0),
        )
        go z (inr d) = absurd (omega (arith, below_cut (code "i" ∷ []) d, ap cut w, ap length w, length-append (init s) (code "i" ∷ [])))
    imag e m None f k = no_parts (rw f at k)

-- cut before a sign: the signs of the first part, the joining one and those after it
odd_cons : (c : ℕ) (t : List ℕ) → to_sign (starts_e (c ∷ t)) t < length t → sign_after_odd_e false (take (cut (c ∷ t)) (c ∷ t)) ≡ false
    → sign_after_odd_e false (drop (cut (c ∷ t)) (c ∷ t)) ≡ false → sign_after_odd_e false (c ∷ t) ≡ false
unfolding starts_e somewhere sign_after odd_e exponent_marker
odd_cons c t n p q =
    let o : 1 + to_sign (exponent_marker c) t ≡ suc (to_sign (exponent_marker c) t) = omega arith in
    to_sign_odd (exponent_marker c) t n (rw o at p) (rw o at q)

pair_odd : (s : List ℕ) → cut s < length s → sign_after_odd_e false (take (cut s) s) ≡ false → sign_after_odd_e false (drop (cut s) s) ≡ false → sign_after_odd_e false s ≡ false
pair_odd [] m p q = absurd (omega arith)
pair_odd (c ∷ t) m p q = odd_cons c t (omega arith) p q

cut_of_sign : (c : ℕ) (t : List ℕ) → is_sign c ≡ true → cut (c ∷ t) ≡ 1 + to_sign false t
unfolding starts_e
cut_of_sign c t h = rw (sign_marker c h)

complex_two : (u v : Option Real) (a : Parts) → complex_of u v ≡ Some a → (x : Real) × (y : Real) × (u ≡ Some x) × (v ≡ Some y) × (a ≡ Complex x y)
unfolding complex_of
complex_two (Some x) (Some y) a k = let z : a ≡ Complex x y = cc in (x, y, refl, refl, z)
complex_two (Some x) None a k = no_parts k
complex_two None v a k = no_parts k

polar_two : (u v : Option Real) (a : Parts) → polar_of u v ≡ Some a → (x : Real) × (y : Real) × (u ≡ Some x) × (v ≡ Some y) × (a ≡ Polar x y)
unfolding polar_of
polar_two (Some x) (Some y) a k = let z : a ≡ Polar x y = cc in (x, y, refl, refl, z)
polar_two (Some x) None a k = no_parts k
polar_two None v a k = no_parts k

module _ (R p : ℕ) (s : List ℕ) (a : Parts) (l : R ≤ 16) (m : cut s < length s) where
  cut_sign : At (cut s) s
  cut_sign = rw (joint_ten s) at (joint_at 10 s (rw (joint_ten s) m))

  module _ (n : length s ≤ cut s + 1 + to_sign false (drop (cut s + 1) s)) (f : bought-grammar.ends_i (drop (cut s) s) ≡ true) where
    last : drop (cut s) s ≡ init (drop (cut s) s) ++ code "i" ∷ []
    last = ends_i_split (drop (cut s) s) f

    -- no second sign, so none below a slash
    not_below : SignedBelow R (init (drop (cut s) s)) → ⊥
    not_below e =
        let g : At (cut s) s = cut_sign in
        let t : drop (cut s + 1) s ≡ g.1 = sym (drop-drop 1 (cut s) s) ∙ ap (drop 1) g.2 in
        let c : cut (drop (cut s) s) ≡ 1 + to_sign false (drop (cut s + 1) s) = ap cut g.2 ∙ cut_of_sign g.0 g.1 g.3 ∙ ap (λ (y : List ℕ). 1 + to_sign false y) (sym t) in
        let b : cut (drop (cut s) s) < length (init (drop (cut s) s)) = rw (← last) at (below_cut (code "i" ∷ []) e) in
        let o : length (drop (cut s) s) ≡ length (init (drop (cut s) s)) + 1 = ap length last ∙ length-append (init (drop (cut s) s)) (code "i" ∷ []) in
        omega (arith, length-drop (cut s) s)

    pair_fine : (x y : Real) → a ≡ Complex x y → Read R p (take (cut s) s) x → ReadI R (p + cut s) (init (drop (cut s) s)) y → Fine R p s a
    pair_fine x y z (inl d) (inl e) =
        let g : At (cut s) s = cut_sign in
        let o : length (take (cut s) s) ≡ cut s = length-take-le (cut s) s (omega arith) in
        let i : ImaginaryAt R (p + length (take (cut s) s)) (init (drop (cut s) s)) y = rw o e.0 in
        let c : ComplexAt R p (take (cut s) s ++ (init (drop (cut s) s) ++ code "i" ∷ [])) a = rw z (ComplexAt.rectangular d.0 i letter_low) in
        let q : take (cut s) s ++ (init (drop (cut s) s) ++ code "i" ∷ []) ≡ s = ap (λ (y : List ℕ). take (cut s) s ++ y) (sym last) ∙ take-append-drop (cut s) s in
        let w : s ≡ take (cut s) s ++ g.0 ∷ g.1 = sym (take-append-drop (cut s) s) ∙ ap (λ (y : List ℕ). take (cut s) s ++ y) g.2 in
        let u : capital false (g.0 ∷ g.1) ≡ false = ap (capital false) (sym g.2 ∙ last) ∙ cap_i (init (drop (cut s) s)) e.1 in (
          subst (λ (x : List ℕ). ComplexAt R p x a) q c,
          ap (capital false) w ∙ cap_join g.0 (sign_mark g.0 g.3) (take (cut s) s) g.1 d.1 (cap_back g.0 (sign_mark g.0 g.3) [] g.1 u),
          λ h. pair_odd s m (real_odd h d.0) (ap (sign_after_odd_e false) last ∙ odd_i (init (drop (cut s) s)) (imaginary_odd h e.0)),
        )
    pair_fine x y z (inr d) e =
        let o : length (take (cut s) s) ≡ cut s = length-take-le (cut s) s (omega arith) in
        let b : cut s < length (take (cut s) s) = rw (take-append-drop (cut s) s) at (below_cut (drop (cut s) s) d) in
        absurd (omega arith)
    pair_fine x y z (inl d) (inr e) = absurd (not_below e)

  pair_read : length s ≤ cut s + 1 + to_sign false (drop (cut s + 1) s) → bought-grammar.pair_of R p (cut s) s ≡ Some a → Fine R p s a
  unfolding bought-grammar.pair_of
  pair_read n h = by_bool (bought-grammar.ends_i (drop (cut s) s)) (λ f. two f (rw f at h)) (λ f. no_parts (rw f at h))
    where
      two : bought-grammar.ends_i (drop (cut s) s) ≡ true → complex_of (bought.real R p (take (cut s) s)) (bought-grammar.imaginary R (p + cut s) (init (drop (cut s) s))) ≡ Some a → Fine R p s a
      two f k =
          let t = complex_two (bought.real R p (take (cut s) s)) (bought-grammar.imaginary R (p + cut s) (init (drop (cut s) s))) a k in
          pair_fine n f t.0 t.1 t.4 (real_read R p (take (cut s) s) t.0 l t.2)
          (imaginary_read R (p + cut s) (init (drop (cut s) s)) t.1 l (signed_init (drop (cut s) s) cut_sign (ends_i_both (drop (cut s) s) f)) t.3)

rect_read : (R p : ℕ) (s : List ℕ) (a : Parts) → R ≤ 16 → bought-grammar.rectangular R p s ≡ Some a → Fine R p s a
unfolding bought-grammar.rectangular
rect_read R p s a l h =
    by_bool (ltb (cut s) (length s))
    (λ e. by_bool (ltb (cut s + 1 + to_sign false (drop (cut s + 1) s)) (length s)) (λ f. no_parts (rw (e, f) at h))
    (λ f. pair_read R p s a l (ltb-true (cut s) (length s) e) (ltb-false (cut s + 1 + to_sign false (drop (cut s + 1) s)) (length s) f) (rw (e, f) at h)))
    (λ e. alone_read R p s a l (ltb-false (cut s) (length s) e) (rw e at h))

-- what the bought reader reads: what the grammar derives, or two sides around an @ with a sign below a slash
pub record Below (R p : ℕ) (s : List ℕ) : Type 0 where
  pub a : List ℕ
  pub b : List ℕ
  pub text : s ≡ a ++ code "@" ∷ b
  pub first : Side R p a
  pub second : Side R (p + length a + 1) b
  pub below : SignedBelow R a ⊎ SignedBelow R b

abbrev pub ReadC : ℕ → ℕ → List ℕ → Parts → Type 0
ReadC R p s a = Fine R p s a ⊎ (Below R p s × (capital false s ≡ false) × (R ≡ 16 → sign_after_odd_e false s ≡ false))

odd_at : (a b : List ℕ) → sign_after_odd_e false a ≡ false → sign_after_odd_e false b ≡ false → sign_after_odd_e false (a ++ code "@" ∷ b) ≡ false
odd_at a b p q = reset_join sign_after odd_e (code "@") (odd_hit (code "@") mark_facts.2) (odd_next (code "@") mark_facts.3) false a b p q

cap_at : (a b : List ℕ) → capital false a ≡ false → capital false b ≡ false → capital false (a ++ code "@" ∷ b) ≡ false
cap_at a b p q = cap_join (code "@") (inr (inr (inr (inl refl)))) a b p q

module _ (R p : ℕ) (l : R ≤ 16) where
  side_capital : {q : ℕ} {s : List ℕ} {r : Real} → Read R q s r → capital false s ≡ false
  side_capital (inl d) = d.1
  side_capital {s = s} (inr d) = plain-capital s (below_plain l d)

  side_odd : {q : ℕ} {s : List ℕ} {r : Real} → Read R q s r → R ≡ 16 → sign_after_odd_e false s ≡ false
  side_odd (inl d) h = real_odd h d.0
  side_odd (inr d) h = below_odd h d

  side : {q : ℕ} {s : List ℕ} {r : Real} → Read R q s r → Side R q s
  side (inl d) = Side.plain d.0 d.1
  side {q} {s} (inr d) = Side.slashed d

polar_read : (R p : ℕ) (x y : List ℕ) (u v : Real) (a : Parts) → R ≤ 16 → a ≡ Polar u v → Read R p x u → Read R (p + length x + 1) y v → ReadC R p (x ++ code "@" ∷ y) a
polar_read R p x y u v a l z (inl d) (inl e) = inl (rw z (ComplexAt.polar d.0 e.0), cap_at x y d.1 e.1, λ h. odd_at x y (real_odd h d.0) (real_odd h e.0))
polar_read R p x y u v a l z (inr d) e =
    inr (
      record { a = x; b = y; text = refl; first = Side.slashed d; second = side R p l e; below = inl d },
      cap_at x y (plain-capital x (below_plain l d)) (side_capital R p l e),
      λ h. odd_at x y (below_odd h d) (side_odd R p l e h),
    )
polar_read R p x y u v a l z (inl d) (inr e) =
    inr (
      record { a = x; b = y; text = refl; first = Side.plain d.0 d.1; second = Side.slashed e; below = inr e },
      cap_at x y d.1 (plain-capital y (below_plain l e)),
      λ h. odd_at x y (real_odd h d.0) (below_odd h e),
    )

pub complex_read : (R p : ℕ) (s : List ℕ) (a : Parts) → R ≤ 16 → bought-grammar.complex R p s ≡ Some a → ReadC R p s a
unfolding bought-grammar.complex
complex_read R p s a l h = by_bool (ltb (before (code "@") s) (length s)) (λ e. polar e (rw e at h)) (λ e. inl (rect_read R p s a l (rw e at h)))
  where
    polar : ltb (before (code "@") s) (length s) ≡ true → polar_of (bought.real R p (take (before (code "@") s) s))
        (bought.real R (p + before (code "@") s + 1) (drop (before (code "@") s + 1) s)) ≡ Some a → ReadC R p s a
    polar e k =
        let t = polar_two (bought.real R p (take (before (code "@") s) s)) (bought.real R (p + before (code "@") s + 1) (drop (before (code "@") s + 1) s)) a k in
        let o : length (take (before (code "@") s) s) ≡ before (code "@") s = length-take-le (before (code "@") s) s (omega (arith, ltb-true (before (code "@") s) (length s) e)) in
        let y : Read R (p + length (take (before (code "@") s) s) + 1) (drop (before (code "@") s + 1) s) t.1 =
        rw o (real_read R (p + before (code "@") s + 1) (drop (before (code "@") s + 1) s) t.1 l t.3) in
        subst (λ (y : List ℕ). ReadC R p y a) (sym (before_split (code "@") s e))
        (polar_read R p (take (before (code "@") s) s) (drop (before (code "@") s + 1) s) t.0 t.1 a l t.4 (real_read R p (take (before (code "@") s) s) t.0 l t.2) y)
