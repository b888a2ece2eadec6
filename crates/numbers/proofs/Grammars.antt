-- What holds of each grammar of numbers (specs/Grammars). A grammar is an argument here, by its productions.
use Rattle.numbers.specs.Grammars.{Letters, Reals, Grammar, Cutting}
use Rattle.numbers.specs.declared.Parts.{Parts}
use Rattle.digits.specs.declared.Int.{Int}
use Rattle.numbers.specs.declared.Real.{Real}
use Rattle.numbers.specs.declared.Real.TheVariants.{ImpliedZero, ImpliedOne}
use Rattle.numbers.specs.Grammar.{just_of, complex_of, polar_of, init}
use Rattle.numbers.specs.Reals as bought
use Rattle.numbers.specs.Reals.{decimal, integral_of, rational_of, or_else}
use Rattle.std.specs.Prelude.{Option, None, Some}
use Rattle.laws.specs.Quoted.{codes, code}
use Rattle.laws.specs.Texts.{span, before, starts, same}
use Rattle.laws.proofs.Choice.{by_bool, if_all, impossible}
use Rattle.laws.proofs.Places.{past, cut_before, cut_at, cut_after, cut_in, cut_out}
use Rattle.digits.specs.Digits.{digit_of, digits, sign, uinteger, whole_of}
use Prim.Native.Nat.{ℕ, zero, suc, ◌+◌, ◌-◌, ◌≤◌, ◌<◌}
use mathlib.Core.Path.{◌≡◌, refl, sym, ap, ◌∙◌}
use mathlib.Core.Bool.{Bool, true, false}
use mathlib.Core.List.{List, [], ◌∷◌}
use lib.ListN.{length, take, drop, length-drop}
use lib.Seq.{take-length}
use lib.Dec.{eqb, ltb, leb}
use native.Mathlib.Omega.{arith}
use borrow.Author.Tests.{eq-eqb, ne_eqb, lt-ltb, le-ltb, eqb-true, leb-true, leb-false}

-- the last place and all before it, counted from p
module _ (t : List ℕ) (p : ℕ) (h : p < length t) where
  pub last_is_lem : length t - 1 ≡ p + (length (drop p t) - 1)
  last_is_lem = omega (arith, length-drop p t)

  pub init_is : drop p (take (length t - 1) t) ≡ init (drop p t)
  init_is = cut_before t p (length (drop p t) - 1) (length t - 1) last_is_lem

-- ---- letters

empty_starts : (s : List ℕ) → length s ≡ 0 → false ≡ starts (code "i") s
unfolding starts
empty_starts [] h = refl
empty_starts (c ∷ s) h = absurd (omega arith)

single : (b : ℕ) (s : List ℕ) → length s ≡ 1 → same s (b ∷ []) ≡ starts b s
unfolding same starts
single b [] h = absurd (omega arith)
single b (c ∷ []) h = by_bool (eqb c b) (λ e. simp e) (λ e. simp e)
single b (c ∷ d ∷ s) h = absurd (omega arith)

module _ {cased : List ℕ → List ℕ} {infnan : List ℕ → (Option Real)} {ends_i : List ℕ → Bool} (L : Letters cased infnan ends_i) where
  pub infnan_is : (s : List ℕ) {x : Option Real} → x ≡ bought.infnan (cased s) → x ≡ infnan s
  infnan_is s e = e ∙ sym (L.infnan_is s)

  -- the last byte alone
  module _ (t : List ℕ) (p : ℕ) where
    pub ends_past : length t ≤ p → false ≡ ends_i (drop p t)
    ends_past h = rw (past t p h) (rw (L.ends_is []) (empty_starts (cased []) (L.length_is [])))

    pub ends_told : p < length t → (x : Bool) → x ≡ same (cased (drop (length t - 1) t)) (codes "i") → x ≡ ends_i (drop p t)
    ends_told h x e =
        e
        ∙ single (code "i") (cased (drop (length t - 1) t)) (L.length_is (drop (length t - 1) t) ∙ omega (arith, length-drop (length t - 1) t))
        ∙ ap (λ (s : List ℕ). starts (code "i") (cased s)) (cut_at t p (length (drop p t) - 1) (length t - 1) (last_is_lem t p h))
        ∙ sym (L.ends_is (drop p t))

-- ---- a real

-- what begins with no digit is no integer
whole_none : (R : ℕ) (neg : Bool) (p k : ℕ) (s : List ℕ) → digits R s ≡ 0 → whole_of R neg p (take k s) ≡ None
unfolding whole_of uinteger span
whole_none R neg p zero s h = refl
whole_none R neg p (suc k) [] h = refl
whole_none R neg p (suc k) (c ∷ s) h = by_bool (ltb (digit_of c) R)
    (λ e. let k : suc (digits R s) ≡ 0 = rw (e, span) at h in absurd (omega arith))
    (λ e. simp (e, lt-ltb 0 (suc (length (take k s))) (omega arith), ne_eqb 0 (suc (length (take k s))) (λ z. omega arith)))

module _ {infnan : List ℕ → (Option Real)} {denominator : ℕ → ℕ → List ℕ → (Option Int)} {exact ureal : ℕ → Bool → ℕ → List ℕ → (Option Real)}
    {real : ℕ → ℕ → List ℕ → (Option Real)} (G : Reals infnan denominator exact ureal real) where
  -- a rational or an integer, the first slash at k
  module _ (R : ℕ) (neg : Bool) (t : List ℕ) (p k : ℕ) (e : k ≡ p + before (code "/") (drop p t)) (r : Option Real) (n : Option Int) where
    pub exact_ratio : (d : Option Int) → k < length t → n ≡ whole_of R neg p (drop p (take k t)) → d ≡ denominator R (k + 1) (drop (k + 1) t)
        → r ≡ rational_of n d → r ≡ exact R neg p (drop p t)
    exact_ratio d h x y z =
        rw (G.exact_is R neg p (drop p t))
        (simp (cut_in t p (before (code "/") (drop p t)) k e h)
        (cc (cut_before t p (before (code "/") (drop p t)) k e, cut_after t p (before (code "/") (drop p t)) k e)))

    pub exact_integer : length t ≤ k → n ≡ whole_of R neg p (drop p t) → r ≡ integral_of n → r ≡ exact R neg p (drop p t)
    exact_integer h x y = rw (G.exact_is R neg p (drop p t)) (simp (cut_out t p (before (code "/") (drop p t)) k e h) (cc))

  -- what begins with no digit is neither
  pub exact_none : (R : ℕ) (neg : Bool) (p : ℕ) (s : List ℕ) → true ≡ eqb (digits R s) 0 → None ≡ exact R neg p s
  unfolding integral_of rational_of
  exact_none R neg p s h =
      let z = eqb-true (digits R s) 0 (sym h) in
      let w : whole_of R neg p s ≡ None = rw (take-length s) at (whole_none R neg p (length s) s z) in
      rw (G.exact_is R neg p s)
      (rw (whole_none R neg p (before (code "/") s) s z, w) (if_all {A = Option Real} (λ x. None ≡ x) (ltb (before (code "/") s) (length s)) refl refl))

  -- a real after its sign
  module _ (R : ℕ) (neg : Bool) (p : ℕ) (s : List ℕ) where
    pub ureal-exact : (r : Option Real) → (R ≡ 10 → ⊥) → r ≡ exact R neg p s → r ≡ ureal R neg p s
    unfolding or_else
    ureal-exact r k z = rw (G.ureal_is R neg p s) (simp (ne_eqb R 10 k) z)

    module _ (x : Option Real) (k : R ≡ 10) (d : x ≡ decimal neg p s) where
      pub ureal-decimal : (v : Real) → x ≡ Some v → x ≡ ureal R neg p s
      unfolding or_else
      ureal-decimal v f = rw (G.ureal_is R neg p s) (simp (eq-eqb R 10 k, ← d, f))

      pub ureal_other : (r : Option Real) → x ≡ None → r ≡ exact R neg p s → r ≡ ureal R neg p s
      unfolding or_else
      ureal_other r f z = rw (G.ureal_is R neg p s) (simp (eq-eqb R 10 k, ← d, f) z)

  -- a real
  module _ (R : ℕ) (t : List ℕ) (p : ℕ) (x : Option Real) (i : x ≡ infnan (drop p t)) where
    pub real_infnan : (v : Real) → x ≡ Some v → x ≡ real R p (drop p t)
    unfolding or_else
    real_infnan v e = rw (G.real_is R p (drop p t)) (simp (← i, e))

    pub real_signed : (r : Option Real) (neg : Bool) (a : ℕ) → x ≡ None → neg ≡ starts (code "-") (drop p t) → a ≡ p + sign (drop p t)
        → r ≡ ureal R neg a (drop a t) → r ≡ real R p (drop p t)
    unfolding or_else
    real_signed r neg a n g e z = rw (G.real_is R p (drop p t)) (simp (← i, n, ← g, ← e, ← cut_at t p (sign (drop p t)) a e) z)

-- ---- a number's parts

module _ {ends_i : List ℕ → Bool} {real imaginary : ℕ → ℕ → List ℕ → (Option Real)} {alone_of : ℕ → ℕ → List ℕ → (Option Parts)}
    {pair_of : ℕ → ℕ → ℕ → List ℕ → (Option Parts)} {rectangular complex : ℕ → ℕ → List ℕ → (Option Parts)}
    (G : Grammar ends_i real imaginary alone_of pair_of rectangular complex) where
  -- the last byte
  module _ (t : List ℕ) (p : ℕ) where
    none_past : length t ≤ p → false ≡ ends_i (drop p t)
    none_past h = rw (past t p h) G.empty_ends

    pub ends_in : true ≡ ends_i (drop p t) → p < length t
    ends_in h =
        by_bool (leb (length t) p)
        (λ e. let f = none_past (leb-true _ _ e) in impossible cc)
        (λ e. leb-false _ _ e)

  -- an imaginary part
  module _ (R p : ℕ) (s : List ℕ) where
    pub imaginary_plus : true ≡ same s (codes "+") → Some (ImpliedOne false) ≡ imaginary R p s
    imaginary_plus h = rw (G.imaginary_is R p s) (simp (← h))

    module _ (a : false ≡ same s (codes "+")) where
      pub imaginary_minus : true ≡ same s (codes "-") → Some (ImpliedOne true) ≡ imaginary R p s
      imaginary_minus h = rw (G.imaginary_is R p s) (simp (← a, ← h))

      pub imaginary-real : (r : Option Real) → false ≡ same s (codes "-") → r ≡ real R p s → r ≡ imaginary R p s
      imaginary-real r h z = rw (G.imaginary_is R p s) (simp (← a, ← h) z)

  -- one part
  module _ (R : ℕ) (t : List ℕ) (p : ℕ) where
    pub alone_real : (r : Option Parts) (x : Option Real) → false ≡ ends_i (drop p t) → x ≡ real R p (drop p t) → r ≡ just_of x → r ≡ alone_of R p (drop p t)
    alone_real r x h e z = rw (G.alone_is R p (drop p t)) (simp (← h, ← e) z)

    module _ (h : true ≡ ends_i (drop p t)) (a : ℕ) (g : a ≡ p + sign (drop p t)) where
      pub alone_none : a ≡ p → None ≡ alone_of R p (drop p t)
      alone_none k = rw (G.alone_is R p (drop p t)) (simp (← h, eq-eqb (sign (drop p t)) 0 (omega arith)))

      pub alone_imaginary : (r : Option Parts) (x : Option Real) → (a ≡ p → ⊥) → x ≡ imaginary R p (drop p (take (length t - 1) t))
          → r ≡ complex_of (Some ImpliedZero) x → r ≡ alone_of R p (drop p t)
      alone_imaginary r x k e z =
          rw (G.alone_is R p (drop p t))
          (simp (← h, ne_eqb (sign (drop p t)) 0 (λ q. k (omega arith)), ← init_is t p (ends_in t p h), ← e) z)

  -- two parts, the second from k on
  module _ (R : ℕ) (t : List ℕ) (p k : ℕ) (l : p ≤ k) where
    there : k ≡ p + (k - p)
    there = omega arith

    pub pair_no : false ≡ ends_i (drop k t) → None ≡ pair_of R p (k - p) (drop p t)
    pair_no h = rw (G.two_are R p (k - p) (drop p t)) (simp (← cut_at t p (k - p) k there, ← h))

    pub pair_is : (r : Option Parts) (x y : Option Real) → true ≡ ends_i (drop k t) → x ≡ real R p (drop p (take k t))
        → y ≡ imaginary R k (drop k (take (length t - 1) t)) → r ≡ complex_of x y → r ≡ pair_of R p (k - p) (drop p t)
    pair_is r x y h e f z =
        rw (G.two_are R p (k - p) (drop p t))
        (simp (← cut_before t p (k - p) k there, ← cut_at t p (k - p) k there, ← h, ← there, ← init_is t k (ends_in t k h), ← e, ← f) z)

  -- the first @ at k
  module _ (R : ℕ) (t : List ℕ) (p k : ℕ) (e : k ≡ p + before (code "@") (drop p t)) (r : Option Parts) where
    pub complex_polar : (x y : Option Real) → k < length t → x ≡ real R p (drop p (take k t)) → y ≡ real R (k + 1) (drop (k + 1) t) → r ≡ polar_of x y
        → r ≡ complex R p (drop p t)
    complex_polar x y h f g z =
        rw (G.complex_is R p (drop p t))
        (simp (cut_in t p (before (code "@") (drop p t)) k e h)
        (cc (cut_before t p (before (code "@") (drop p t)) k e, cut_after t p (before (code "@") (drop p t)) k e)))

    pub complex-rectangular : length t ≤ k → r ≡ rectangular R p (drop p t) → r ≡ complex R p (drop p t)
    complex-rectangular h z = rw (G.complex_is R p (drop p t)) (simp (cut_out t p (before (code "@") (drop p t)) k e h) z)

-- a number without @, where k is the place at which two parts join
module _ {joint : ℕ → List ℕ → ℕ} {again : ℕ → List ℕ → Bool} {alone_of : ℕ → ℕ → List ℕ → (Option Parts)}
    {pair_of : ℕ → ℕ → ℕ → List ℕ → (Option Parts)} {rectangular : ℕ → ℕ → List ℕ → (Option Parts)}
    (C : Cutting joint again alone_of pair_of rectangular) (R : ℕ) (t : List ℕ) (p : ℕ) where
  pub rectangular_past : (r : Option Parts) → length t ≤ p → r ≡ alone_of R p (drop p t) → r ≡ rectangular R p (drop p t)
  rectangular_past r h z =
      rw (C.rectangular_is R p (drop p t)) (simp (le-ltb (joint R (drop p t)) (length (drop p t)) (omega (arith, length-drop p t))) z)

  module _ (k : ℕ) (e : k ≡ p + joint R (drop p t)) where
    pub rectangular_alone : (r : Option Parts) → length t ≤ k → r ≡ alone_of R p (drop p t) → r ≡ rectangular R p (drop p t)
    rectangular_alone r h z = rw (C.rectangular_is R p (drop p t)) (simp (cut_out t p (joint R (drop p t)) k e h) z)

    module _ (h : k < length t) where
      from_start : k - p ≡ joint R (drop p t)
      from_start = omega arith

      pub rectangular_many : true ≡ again (k - p) (drop p t) → None ≡ rectangular R p (drop p t)
      rectangular_many a =
          rw (C.rectangular_is R p (drop p t))
          (simp (cut_in t p (joint R (drop p t)) k e h, sym (rw from_start at a)))

      pub rectangular_pair : (r : Option Parts) → false ≡ again (k - p) (drop p t) → r ≡ pair_of R p (k - p) (drop p t) → r ≡ rectangular R p (drop p t)
      rectangular_pair r a z =
          rw (C.rectangular_is R p (drop p t))
          (simp (cut_in t p (joint R (drop p t)) k e h, sym (rw from_start at a)) (rw from_start at z))
