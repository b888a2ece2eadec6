-- The answer to a text by the parts that are passed: its sign, its digits up to w, a dot and digits up to e, and what follows.
use Rattle.numbers.specs.declared.Real.{Real}
use Rattle.std.proofs.Common.{◌≡◌, ℕ, ◌+◌, ◌-◌, ◌^◌, ◌<◌, ◌≤◌, Bool, true, false, eqb, ltb, List, [], ◌∷◌, ◌++◌, length, take, drop, pos, ◌-ℤ◌, neg_ℤ, sym, refl, ap, ◌∙◌, zero-add, arith, length-drop, ltb-false, ltb-true, eq-eqb, ne_eqb, eqb-true, None, Option}
use borrow.Author.Tests.{eqb-false}
use Rattle.laws.specs.Quoted.{code}
use Rattle.laws.specs.Texts.{starts}
use Rattle.laws.proofs.Compared.{starts_in}
use Rattle.laws.proofs.Runs.{span_le}
use Rattle.laws.proofs.Choice.{by_bool, if_all, and_no}
use Rattle.digits.specs.declared.Run.{Run}
use Rattle.digits.specs.declared.Span.{Span}
use Rattle.digits.specs.Digits.{digit_of, digits, sign, uinteger, value, run_value, signed}
use Rattle.digits.proofs.Digits.{uinteger_past, uinteger_run}
use Rattle.numbers.specs.declared.Exponent.{Exponent}
use Rattle.numbers.specs.declared.Suffix.{Suffix}
use Rattle.numbers.specs.declared.Suffix.TheVariants.{Empty, Marked, Bad}
use Rattle.numbers.specs.Reals.{exponent, suffix, point_of, dotted, decimal, point_in, one_decimal}
use Rattle.numbers.proofs.Decimals.{exponent_yes, exponent_no, suffix_past, dotted_none, dotted_fraction, dotted_whole, undotted_empty, undotted_bad}
use Rattle.numbers.proofs.Decimals.{undotted_none, undotted_some, decimal_dot, decimal_no}
use Rattle.numbers.proofs.RealParts.{one_decimal_at}
use Rattle.coordinates.specs.Answers.{Answer}
use Rattle.coordinates.specs.Coordinate.{slice, all_digits, scale, outside, of_point, judged}
use Rattle.coordinates.specs.Inner.{capped, weighed, suffixed, told, wanted, Held, Passed}
use Rattle.coordinates.specs.Values.{is_whole}
use Rattle.coordinates.proofs.Ascii.{whole_good}
use Rattle.coordinates.proofs.Calls.{judged_good}
use Rattle.coordinates.proofs.Scales.{less_none}
use Rattle.coordinates.proofs.Totals.{value_app, alike_value, weighed_alike, exponent_alike}

abbrev at : ℕ → ℕ → Span
at a b = record { start = a; «end» = b }

-- a decimal by its digits and its suffix
told_point : (s : List ℕ) (neg : Bool) (w f : Span) (x : Suffix)
    → told s (point_in (point_of neg w f x)) ≡ suffixed s neg (value 10 0 (slice w s ++ slice f s)) (f.end - f.start) x
unfolding told point_in point_of suffixed of_point all_digits scale weighed value
told_point s neg w f Empty =
    let z : f.end - f.end ≡ 0 = omega arith in
    rw z (ap (weighed neg (value 10 0 (slice w s ++ slice f s))) (less_none (f.end - f.start)))
told_point s neg w f (Marked e) = refl
told_point s neg w f Bad = refl

suffixed_alike : (s : List ℕ) (neg : Bool) (m n f : ℕ) (x : Suffix) → capped m ≡ capped n → suffixed s neg m f x ≡ suffixed s neg n f x
unfolding suffixed
suffixed_alike s neg m n f Empty h = weighed_alike neg m n _ h
suffixed_alike s neg m n f (Marked e) h = weighed_alike neg m n _ h
suffixed_alike s neg m n f Bad h = refl

-- after a marker there is an exponent or nothing that is right
exponent_some : (P : Suffix → Type 0) (p : ℕ) (s : List ℕ) → ((d : Exponent) → P (Marked d)) → P Bad → P (exponent p s)
unfolding exponent
exponent_some P p s f b = if_all P (uinteger 10 (drop (sign s) s)) (f _) b

-- digits that all stand from p on to e
module _ (t : List ℕ) (p e : ℕ) (d : e ≡ p + digits 10 (drop p t)) where
  run_slice : (n : ℕ) → run_value n (drop p t) ≡ value 10 n (slice (at p e) t)
  run_slice n = let z : digits 10 (drop p t) ≡ e - p = omega arith in ap (λ (k : ℕ). value 10 n (take k (drop p t))) z

  pub run_inside : p ≤ length t → e ≤ length t
  run_inside h = let n = span_le (λ c. ltb (digit_of c) 10) (drop p t) in let m = length-drop p t in omega arith

  pub not_ended : (e ≡ length t → ⊥) → false ≡ uinteger 10 (drop p t)
  not_ended n =
      by_bool (ltb p (length t))
      (λ h. sym (ne_eqb e (length t) n) ∙ uinteger_run 10 t p e (ltb-true p (length t) h) d)
      (λ h. uinteger_past 10 t p (ltb-false p (length t) h))

  pub not_begun : e ≡ p → false ≡ uinteger 10 (drop p t)
  not_begun n =
      by_bool (ltb p (length t))
      (λ h. let l = ltb-true p (length t) h in sym (ne_eqb e (length t) (λ q. omega arith)) ∙ uinteger_run 10 t p e l d)
      (λ h. uinteger_past 10 t p (ltb-false p (length t) h))

  pub ended : (e ≡ p → ⊥) → e ≡ length t → true ≡ uinteger 10 (drop p t)
  ended n f = sym (eq-eqb e (length t) f) ∙ uinteger_run 10 t p e (omega arith) d

-- a sign is a part of the text
pub sign_in : (t : List ℕ) (p : ℕ) → p ≡ sign t → p ≤ length t
unfolding sign
sign_in [] p e = omega arith
sign_in (c ∷ t) p e =
    let n : 1 ≤ length (c ∷ t) = omega arith in
    rw e (if_all (λ (k : ℕ). k ≤ length (c ∷ t)) (eqb c (code "+")) n
    (if_all (λ (k : ℕ). k ≤ length (c ∷ t)) (eqb c (code "-")) n (omega arith)))

-- the sign at the start, and the digits after it
pub passed : (t : List ℕ) (neg : Bool) (p : ℕ) (w : Run) → neg ≡ starts (code "-") (drop 0 t) → p ≡ 0 + sign (drop 0 t)
    → (w.end ≡ p + digits 10 (drop p t)) × (capped w.value ≡ capped (run_value 0 (drop p t))) × Held w.value w.end
    → length t < 2 ^ 32 → Passed t neg p w
passed t neg p w n s d l = (n, s ∙ zero-add (sign t), d.0, d.1, d.2, l)

-- the digits after a marker and a sign, up to e and of the value v
module _ (t : List ℕ) (neg : Bool) (m f p : ℕ) (down : Bool) (a : ℕ) (n : down ≡ starts (code "-") (drop p t))
    (g : a ≡ p + sign (drop p t)) where
  pub exponent_bad : false ≡ uinteger 10 (drop a t) → judged t outside ≡ suffixed t neg m f (exponent p (drop p t))
  unfolding suffixed
  exponent_bad u = ap (suffixed t neg m f) (exponent_no t p down a n g u)

  pub exponent_told : (e v : ℕ) → e ≡ a + digits 10 (drop a t) → (e ≡ a → ⊥) → e ≡ length t → capped v ≡ capped (run_value 0 (drop a t))
      → f < 2 ^ 32
      → (r : Answer) → r ≡ weighed neg m (signed down v -ℤ pos f) → r ≡ suffixed t neg m f (exponent p (drop p t))
  unfolding suffixed
  exponent_told e v d k l w h r z =
      let q : capped v ≡ capped (value 10 0 (slice (at a (length t)) t)) = w ∙ ap capped (run_slice t a e d 0
      ∙ ap (λ (b : ℕ). value 10 0 (slice (at a b) t)) l) in
      z ∙ exponent_alike neg m down v _ f q h ∙ ap (suffixed t neg m f) (exponent_yes t p down a n g (ended t a e d k l))

-- the sign and the first digits are passed
module _ (t : List ℕ) (neg : Bool) (p : ℕ) (w : Run) (h : Passed t neg p w) where
  decimal-told : (x : Option Real) → x ≡ decimal neg p (drop p t) → told t (point_in x) ≡ told t (one_decimal t)
  decimal-told x e =
      ap (told t) (one_decimal_at t neg p x (point_in x) h.0 (h.1 ∙ sym (zero-add (sign t))) e refl)

  none_told : None ≡ decimal neg p (drop p t) → judged t outside ≡ told t (one_decimal t)
  none_told e = let z : judged t outside ≡ told t (point_in None) = unfold told point_in in refl in z ∙ decimal-told None e

  first_value : capped w.value ≡ capped (value 10 0 (slice (at p w.end) t))
  first_value = h.3 ∙ ap capped (run_slice t p w.end h.2 0)

  whole_by : uinteger 10 (drop p t) ≡ is_whole t
  unfolding is_whole
  whole_by = ap (λ (a : ℕ). uinteger 10 (drop a t)) h.1

  pub wanted_other : (wholes : Bool) → false ≡ uinteger 10 (drop p t) → (r : Answer) → r ≡ told t (one_decimal t) → r ≡ wanted wholes t
  unfolding wanted
  wanted_other wholes u r e = let z : is_whole t ≡ false = sym (u ∙ whole_by) in simp (z, and_no) e

  -- with a dot
  pub dot_in : true ≡ starts (code ".") (drop w.end t) → w.end < length t
  dot_in s = starts_in (code ".") t w.end s

  pub dot_other : true ≡ starts (code ".") (drop w.end t) → false ≡ uinteger 10 (drop p t)
  dot_other s = let l = dot_in s in not_ended t p w.end h.2 (λ q. omega arith)

  module _ (s : true ≡ starts (code ".") (drop w.end t)) (e : ℕ) (d : e ≡ w.end + 1 + digits 10 (drop (w.end + 1) t)) where
    pub all_in : e ≤ length t
    all_in = let l = dot_in s in run_inside t (w.end + 1) e d (omega arith)

    pub all_before : (e ≡ length t → ⊥) → e < length t
    all_before n = omega (arith, all_in)

    pub dot_none : p + 1 ≡ e → judged t outside ≡ told t (one_decimal t)
    dot_none f =
        let k = h.2 in
        none_told (decimal_dot neg t p w.end h.2 None s (dotted_none neg t p w.end (w.end + 1) e (omega arith) d (omega arith)
        (omega arith)))

    all_value : (v : ℕ) → capped v ≡ capped (run_value w.value (drop (w.end + 1) t))
        → capped v ≡ capped (value 10 0 (slice (at p w.end) t ++ slice (at (w.end + 1) e) t))
    all_value v k =
        k ∙ ap capped (run_slice t (w.end + 1) e d w.value) ∙ alike_value _ _ (slice (at (w.end + 1) e) t) first_value
        ∙ ap capped (sym (value_app 10 0 (slice (at p w.end) t) (slice (at (w.end + 1) e) t)))

    dotted_some : (p + 1 ≡ e → ⊥) → (x : Suffix) → x ≡ suffix e (drop e t)
        → point_of neg (at p w.end) (at (w.end + 1) e) x ≡ dotted neg p (w.end - p) (w.end + 1) (drop (w.end + 1) t)
    dotted_some n x i =
        let k = h.2 in
        by_bool (eqb p w.end)
        (λ b. let c = eqb-true p w.end b in dotted_fraction neg t p w.end
        (w.end + 1) e (omega arith) d _ x i refl (λ q. n (omega arith)))
        (λ b. dotted_whole neg t p w.end (w.end + 1) e (omega arith) d _ x i refl (eqb-false p w.end b))

    pub dot_told : (p + 1 ≡ e → ⊥) → (v : ℕ) → capped v ≡ capped (run_value w.value (drop (w.end + 1) t)) → (x : Suffix)
        → x ≡ suffix e (drop e t)
        → (r : Answer) → r ≡ suffixed t neg v (e - (w.end + 1)) x → r ≡ told t (one_decimal t)
    dot_told n v k x i r z =
        z ∙ suffixed_alike t neg v _ (e - (w.end + 1)) x (all_value v k) ∙ sym (told_point t neg (at p w.end) (at (w.end + 1) e) x)
        ∙ decimal-told _ (decimal_dot neg t p w.end h.2 _ s (dotted_some n x i))

  -- without one
  module _ (s : false ≡ starts (code ".") (drop w.end t)) where
    -- no digits after them
    abbrev plain_digits : ℕ
    plain_digits = value 10 0 (slice (at p w.end) t ++ slice (at w.end w.end) t)

    plain_value : capped w.value ≡ capped plain_digits
    unfolding value
    plain_value =
        let z : w.end - w.end ≡ 0 = omega arith in
        first_value ∙ ap capped (sym (value_app 10 0 (slice (at p w.end) t) (slice (at w.end w.end) t) ∙ rw z refl))

    pub plain_none : p ≡ w.end → judged t outside ≡ told t (one_decimal t)
    plain_none f = go (suffix w.end (drop w.end t)) refl
      where
        go : (x : Suffix) → x ≡ suffix w.end (drop w.end t) → judged t outside ≡ told t (one_decimal t)
        go Empty i = none_told (decimal_no neg t p w.end h.2 None Empty s i (undotted_empty neg p w.end Empty refl))
        go (Marked d) i =
            none_told (decimal_no neg t p w.end h.2 None (Marked d) s i (undotted_none neg p w.end (Marked d) d refl f))
        go Bad i = none_told (decimal_no neg t p w.end h.2 None Bad s i (undotted_bad neg p w.end Bad refl))

    pub plain_bad : Bad ≡ suffix w.end (drop w.end t) → judged t outside ≡ told t (one_decimal t)
    plain_bad i = none_told (decimal_no neg t p w.end h.2 None Bad s i (undotted_bad neg p w.end Bad refl))

    plain_marked : (p ≡ w.end → ⊥) → (d : Exponent) → Marked d ≡ suffix w.end (drop w.end t) → (r : Answer)
        → r ≡ suffixed t neg w.value 0 (Marked d) → r ≡ told t (one_decimal t)
    plain_marked n d i r z =
        let o : 0 ≡ w.end - w.end = omega arith in
        let k = h.2 in
        z ∙ suffixed_alike t neg w.value plain_digits 0 (Marked d) plain_value ∙ ap (λ (f : ℕ). suffixed t neg plain_digits f (Marked d)) o
        ∙ sym (told_point t neg (at p w.end) (at w.end w.end) (Marked d))
        ∙ decimal-told _ (decimal_no neg t p w.end h.2 _ (Marked d) s i
        (undotted_some neg p w.end (Marked d) d refl _ n (omega arith) refl))

    pub plain-told : (p ≡ w.end → ⊥) → (x : Suffix) → x ≡ exponent (w.end + 1) (drop (w.end + 1) t)
        → x ≡ suffix w.end (drop w.end t)
        → (r : Answer) → r ≡ suffixed t neg w.value 0 x → r ≡ told t (one_decimal t)
    plain-told n x q i r z =
        exponent_some (λ (y : Suffix). x ≡ y → r ≡ told t (one_decimal t)) (w.end + 1) (drop (w.end + 1) t)
        (λ d e. plain_marked n d (sym e ∙ i) r (z ∙ ap (suffixed t neg w.value 0) e))
        (λ e. z ∙ ap (suffixed t neg w.value 0) e ∙ none ∙ plain_bad (sym e ∙ i)) q
      where
        none : suffixed t neg w.value 0 Bad ≡ judged t outside
        none = unfold suffixed in refl

    -- an integer
    module _ (u : true ≡ uinteger 10 (drop p t)) (f : w.end ≡ length t) where
      whole : is_whole t ≡ true
      whole = sym (u ∙ whole_by)

      pub wanted_whole : (wholes : Bool) → wholes ≡ true → (r : Answer) → r ≡ weighed neg w.value (pos 0) → r ≡ wanted wholes t
      unfolding wanted told point_in point_of suffixed
      wanted_whole wholes b r z =
          let o : 0 ≡ w.end - w.end = omega arith in
          simp (b, whole)
          (z ∙ weighed_alike neg w.value plain_digits (pos 0) plain_value ∙ ap (λ (k : ℕ). weighed neg plain_digits (neg_ℤ (pos k))) o
          ∙ sym (told_point t neg (at p w.end) (at w.end w.end) Empty) ∙ rw (h.0, h.1, f) refl)

      pub wanted_integer : (wholes : Bool) → wholes ≡ false → outside ≡ wanted wholes t
      unfolding wanted
      wanted_integer wholes b =
          let l = h.5 in
          simp b
          (judged_good t outside (omega arith) (sym (whole_good t whole))
          ∙ none_told (decimal_no neg t p w.end h.2 None Empty s (suffix_past t w.end (omega arith))
          (undotted_empty neg p w.end Empty refl)))
