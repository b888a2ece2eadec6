-- An outline's real. What it tells of the text it also tells of the part that ends where it ends; that part is digits and nothing else, or has a
-- fraction, and so is one of the plainest numbers, with the outline's real.
use Rattle.std.proofs.Common.{Some}
use Rattle.numbers.specs.declared.Outline.{Outline}
use Rattle.numbers.specs.declared.Real.TheVariants.{Integer, Rational}
use Rattle.numbers.specs.Brief.{fraction_end, Outlines, sound, decimal_of, outlined, plain_from}
use Rattle.numbers.specs.Reals.{point_of, rational_of, denominator}
use Rattle.numbers.proofs.PlainPlaces.{fraction_run, ratio_run}
use Rattle.numbers.proofs.PlainReals.{real_whole, real_fraction, real_ratio}
use Rattle.numbers.proofs.Grammars.{exact_ratio}
use Rattle.numbers.proofs.Plain.{before_slash}
use Rattle.numbers.specs.Grammars.{bought_reals}
use Rattle.numbers.proofs.RealParts.{denominator_is}
use Rattle.digits.specs.declared.Int.TheVariants.{Small}
use Rattle.digits.specs.Digits.{digit_of, digits, sign, negative, value, run_value, short, signed, top, whole_of}
use Rattle.digits.proofs.Digits.{uinteger_run, sign_none}
use Rattle.digits.proofs.DecimalRuns.{short-top, short_whole}
use Rattle.digits.proofs.Integers.{signed_fits, integer_is}
use Rattle.laws.specs.Quoted.{code}
use Rattle.laws.specs.Texts.{span, before, starts}
use Rattle.laws.proofs.Choice.{by_bool, if_all, yes_no}
use Rattle.laws.proofs.Compared.{starts_in, starts_here}
use Rattle.laws.proofs.Places.{cut_before, cut_at}
use Rattle.laws.proofs.Runs.{span_le}
use Prim.Native.Nat.{ℕ, zero, suc, ◌+◌, ◌-◌, ◌^◌, ◌≤◌, ◌<◌}
use mathlib.Core.Path.{◌≡◌, refl, sym, ap, ◌∙◌}
use mathlib.Core.Bool.{Bool, true, false, not}
use mathlib.Core.List.{List, [], ◌∷◌}
use lib.ListN.{length, get_or, take, drop, length-drop}
use lib.Seq.{drop-drop, take_all, length-take-le}
use lib.IntN.{ℤ}
use lib.Dec.{eqb, ltb, lit<}
use mir.Syntax.{w64}
use mir.Val.{to_z, of_z}
use mir.Facts.{to_z-of_z}
use native.Mathlib.Omega.{arith}
use native.Mathlib.Nat.{pow-le-pow_right, lt_of_lt_of_le}
use borrow.Author.Tests.{eq-eqb, ne_eqb, eqb-true, eqb-false, ltb-true}

-- ---- what tests tell

pub is_told_lem : (b : Bool) → not b ≡ false → true ≡ b
is_told_lem true h = refl
is_told_lem false h = yes_no h

-- ---- where a fraction ends

module _ (t : List ℕ) (p : ℕ) where
  module _ (h : true ≡ starts (code ".") (drop p t)) where
    pub fraction_end_dot : fraction_end p (drop p t) ≡ p + 1 + digits 10 (drop (p + 1) t)
    unfolding fraction_end
    fraction_end_dot = simp (← h, drop-drop 1 p t)

  pub fraction_end_none : false ≡ starts (code ".") (drop p t) → fraction_end p (drop p t) ≡ p
  unfolding fraction_end
  fraction_end_none h = simp (← h)

  pub run_in : p ≤ length t → p + digits 10 (drop p t) ≤ length t
  run_in h = omega (arith, span_le (λ c. ltb (digit_of c) 10) (drop p t), length-drop p t)

pub fraction_end_in : (t : List ℕ) (p : ℕ) → p ≤ length t → (p ≤ fraction_end p (drop p t)) × (fraction_end p (drop p t) ≤ length t)
fraction_end_in t p h =
    by_bool (starts (code ".") (drop p t))
    (λ e. let l = starts_in (code ".") t p (sym e) in rw (fraction_end_dot t p (sym e)) (omega arith, run_in t (p + 1) (omega arith)))
    (λ e. rw (fraction_end_none t p (sym e)) (omega arith, h))

sign_le : (s : List ℕ) → sign s ≤ length s
unfolding sign
sign_le [] = omega arith
sign_le (c ∷ s) = if_all (λ (n : ℕ). n ≤ suc (length s)) (eqb c (code "+")) (omega arith)
    (if_all (λ (n : ℕ). n ≤ suc (length s)) (eqb c (code "-")) (omega arith) (omega arith))

pub sign_in : (t : List ℕ) (p : ℕ) → p ≤ length t → p + sign (drop p t) ≤ length t
sign_in t p h = omega (arith, sign_le (drop p t), length-drop p t)

-- ---- the code's values

pub value_short : (n e m : ℕ) → n ≤ short → e ≤ n → m < 10 ^ e → m < 10 ^ short
value_short n e m l h k = let j : e ≤ short = omega arith in lt_of_lt_of_le k (pow-le-pow_right (lit< tt) j)

module _ (o : Outline) where
  pub sound_integer : o.dot ≡ o.end → ltb o.start o.dot ≡ sound o
  unfolding sound
  sound_integer e = simp (eq-eqb o.dot o.end e)

  pub sound_decimal : (o.dot ≡ o.end → ⊥) → ltb (o.dot + 1) o.end ≡ sound o
  unfolding sound
  sound_decimal n = simp (ne_eqb o.dot o.end n)

  pub outlined_integer : (z : ℤ) → o.dot ≡ o.end → o.value < 10 ^ short → z ≡ signed o.negative o.value
      → Integer (Small (to_z w64 (of_z w64 z))) ≡ outlined o
  unfolding outlined
  outlined_integer z e l k =
      rw (k, to_z-of_z (signed_fits o.negative o.value (short-top o.negative short short o.value (omega arith) refl l)))
      (simp (eq-eqb o.dot o.end e))

  pub outlined_decimal : (o.dot ≡ o.end → ⊥) → decimal_of o ≡ outlined o
  unfolding outlined
  outlined_decimal n = simp (ne_eqb o.dot o.end n)

-- ---- a part that ends at k

-- what the first j characters tell of all
starts-take : (b j : ℕ) (s : List ℕ) → 0 < j → starts b (take j s) ≡ starts b s
unfolding starts
starts-take b zero s h = absurd (omega arith)
starts-take b (suc j) [] h = refl
starts-take b (suc j) (c ∷ s) h = refl

sign-take : (j : ℕ) (s : List ℕ) → 0 < j → sign (take j s) ≡ sign s
unfolding sign
sign-take zero s h = absurd (omega arith)
sign-take (suc j) [] h = refl
sign-take (suc j) (c ∷ s) h = refl

span-take : (f : ℕ → Bool) (j : ℕ) (s : List ℕ) → span f s ≤ j → span f (take j s) ≡ span f s
unfolding span
span-take f zero [] h = refl
span-take f (suc j) [] h = refl
span-take f zero (c ∷ s) h = by_bool (f c)
    (λ e. let k : suc (span f s) ≤ 0 = rw (e, span) at h in absurd (omega arith))
    (λ e. simp e)
span-take f (suc j) (c ∷ s) h = by_bool (f c)
    (λ e. let k : suc (span f s) ≤ suc j = rw (e, span) at h in simp e (ap suc (span-take f j s (omega arith))))
    (λ e. simp e)

take-take : (i j : ℕ) (s : List ℕ) → i ≤ j → take i (take j s) ≡ take i s
take-take zero j s h = refl
take-take (suc i) zero s h = absurd (omega arith)
take-take (suc i) (suc j) [] h = refl
take-take (suc i) (suc j) (c ∷ s) h = ap (λ (x : List ℕ). c ∷ x) (take-take i j s (omega arith))

module _ (t : List ℕ) (p k : ℕ) where
  part : p ≤ k → drop p (take k t) ≡ take (k - p) (drop p t)
  part h = cut_before t p (k - p) k (omega arith)

  part_starts : (b : ℕ) → p < k → starts b (drop p (take k t)) ≡ starts b (drop p t)
  part_starts b h = rw (part (omega arith)) (starts-take b (k - p) (drop p t) (omega arith))

  part_sign : p < k → sign (drop p (take k t)) ≡ sign (drop p t)
  part_sign h = rw (part (omega arith)) (sign-take (k - p) (drop p t) (omega arith))

  part_digits : p + digits 10 (drop p t) ≤ k → digits 10 (drop p (take k t)) ≡ digits 10 (drop p t)
  part_digits h = rw (part (omega arith)) (span-take (λ c. ltb (digit_of c) 10) (k - p) (drop p t) (omega arith))

  part_value : p + digits 10 (drop p t) ≤ k → run_value 0 (drop p (take k t)) ≡ run_value 0 (drop p t)
  part_value h =
      rw (part_digits h)
      (ap (value 10 0) (rw (part (omega arith)) (take-take (digits 10 (drop p t)) (k - p) (drop p t) (omega arith))))

-- ---- the part has the outline's real

module _ (t : List ℕ) (p : ℕ) (o : Outline) (h : Outlines t p o) (l : o.end ≤ length t) (v : o.value < 10 ^ short) where
  abbrev cut : List ℕ
  cut = take o.end t

  ends : o.end ≡ length cut
  ends = sym (length-take-le o.end t l)

  module _ (first : p < o.end) (run : o.dot ≤ o.end) where
    minus : o.negative ≡ negative (drop p cut)
    minus = h.0 ∙ sym (part_starts t p o.end (code "-") first)

    signs : o.start ≡ p + sign (drop p cut)
    signs = h.1 ∙ sym (ap (λ (n : ℕ). p + n) (part_sign t p o.end first))

    digits_in : o.start + digits 10 (drop o.start t) ≤ o.end
    digits_in = omega (arith, h.2)

    runs : o.dot ≡ o.start + digits 10 (drop o.start cut)
    runs = h.2 ∙ sym (ap (λ (n : ℕ). o.start + n) (part_digits t o.start o.end digits_in))

    values : o.value ≡ run_value 0 (drop o.start cut)
    values = h.4 ∙ sym (part_value t o.start o.end digits_in)

    module _ (e : o.dot ≡ o.end) (some : o.start < o.dot) where
      whole_end : o.dot ≡ length cut
      whole_end = e ∙ ends

      outline_whole : (z : ℤ) → z ≡ signed o.negative o.value
          → Some (Small (to_z w64 (of_z w64 z))) ≡ whole_of 10 o.negative o.start (drop o.start cut)
      outline_whole z k =
          let m = short-top o.negative short short o.value (omega arith) refl v in
          let u = sym (eq-eqb o.dot (length cut) whole_end) ∙ uinteger_run 10 cut o.start o.dot (omega (arith, whole_end)) runs in
          short_whole o.negative o.start cut o.value z u values m k

      outline_integer : Some (outlined o) ≡ plain_from p (drop p cut)
      outline_integer =
          ap Some (sym (outlined_integer o (signed o.negative o.value) e v refl))
          ∙ real_whole cut p o.negative o.start o.dot minus signs runs whole_end some _ (outline_whole (signed o.negative o.value) refl)

    outline_decimal : (o.dot ≡ o.end → ⊥) → o.dot + 1 < o.end → Some (outlined o) ≡ plain_from p (drop p cut)
    unfolding point_of
    outline_decimal n some =
        let d : true ≡ starts (code ".") (drop o.dot t) = by_bool (starts (code ".") (drop o.dot t)) (λ e. sym e) (λ e. absurd (n (sym (h.3 ∙ fraction_end_none t o.dot (sym e))))) in
        let e : o.end ≡ o.dot + 1 + digits 10 (drop (o.dot + 1) t) = h.3 ∙ fraction_end_dot t o.dot d in
        let f : o.end ≡ o.dot + 1 + digits 10 (drop (o.dot + 1) cut) = e ∙ sym (ap (λ (n : ℕ). o.dot + 1 + n) (part_digits t (o.dot + 1) o.end (omega arith))) in
        let g : true ≡ starts (code ".") (drop o.dot cut) = d ∙ sym (part_starts t o.dot o.end (code ".") (omega arith)) in
        let x = sym (eq-eqb o.end (length cut) ends) ∙ fraction_run cut o.dot g o.end (omega (arith, ends)) f in
        ap Some (sym (outlined_decimal o n))
        ∙ real_fraction cut p o.negative o.start o.dot minus signs runs (λ q. n (omega (arith, ends))) x _ (simp (← ends))

  pub outline_real : p ≤ length t → o.dot ≤ o.end → true ≡ sound o → Some (outlined o) ≡ plain_from p (drop p cut)
  outline_real i run s =
      by_bool (eqb o.dot o.end)
      (λ b. let e = eqb-true o.dot o.end b in
      let some = ltb-true o.start o.dot (sound_integer o e ∙ sym s) in
      outline_integer (omega (arith, h.1)) run e some)
      (λ b. let n = eqb-false o.dot o.end b in
      let some = ltb-true (o.dot + 1) o.end (sound_decimal o n ∙ sym s) in
      outline_decimal (omega (arith, h.1, h.2)) run n some)

  -- it ends with the text
  pub outline_rest : p ≤ length t → o.dot ≤ o.end → true ≡ sound o → length t ≤ o.end → Some (outlined o) ≡ plain_from p (drop p t)
  outline_rest i run s j = outline_real i run s ∙ ap (λ (x : List ℕ). plain_from p (drop p x)) (take_all o.end t j)

  -- it ends at a place before
  pub outline_to : (n : ℕ) → p ≤ length t → o.dot ≤ o.end → true ≡ sound o → o.end ≡ n → Some (outlined o) ≡ plain_from p (drop p (take n t))
  outline_to n i run s j = outline_real i run s ∙ ap (λ (m : ℕ). plain_from p (drop p (take m t))) j

-- ---- an integer, a slash, and digits m behind it that do not begin with zero

module _ (t : List ℕ) (o : Outline) (h : Outlines t 0 o) (l : o.end < length t) (v : o.value < 10 ^ short) (s : true ≡ sound o)
    (e : o.dot ≡ o.end) (g : get_or t o.end 0 ≡ code "/") where
  slash : true ≡ starts (code "/") (drop o.end t)
  slash = sym (eq-eqb (get_or t o.end 0) (code "/") g) ∙ starts_here (code "/") t o.end l

  whole_run : o.end ≡ o.start + digits 10 (drop o.start t)
  whole_run = sym e ∙ h.2

  digits_some : o.start < o.dot
  digits_some = ltb-true o.start o.dot (sound_integer o e ∙ sym s)

  slash_first : o.end ≡ o.start + before (code "/") (drop o.start t)
  slash_first =
      whole_run
      ∙ ap (λ (n : ℕ). o.start + n)
      (sym (before_slash (drop o.start t) (ap (starts (code "/")) (sym (cut_at t o.start (digits 10 (drop o.start t)) o.end whole_run)) ∙ sym slash)))

  module _ (a m : ℕ) (i : o.end + 1 < length t) (z : code "0" < get_or t (o.end + 1) 0) (d : a ≡ o.end + 1 + digits 10 (drop (o.end + 1) t))
      (f : length t ≤ a) (w : m ≡ run_value 0 (drop (o.end + 1) t)) (k : m < top false) where
    last : a ≡ length t
    last = omega (arith, run_in t (o.end + 1) (omega arith))

    under : (y : ℤ) → y ≡ signed false m → Some (Small (to_z w64 (of_z w64 y))) ≡ denominator 10 (o.end + 1) (drop (o.end + 1) t)
    under y j =
        let n = o.end + 1 in
        let u = sym (eq-eqb a (length t) last) ∙ uinteger_run 10 t n a i d in
        let b = sym (ne_eqb (get_or t n 0) (code "-") (λ q. omega arith)) ∙ starts_here (code "-") t n i in
        denominator_is 10 n (drop n t)
        (integer_is 10 n t false n _ b (sign_none t n i (λ q. omega arith) (λ q. omega arith)) (short_whole false n t m y u w k j))

    pub ratio_told : (x y : ℤ) → x ≡ signed o.negative o.value → y ≡ signed false m
        → Some (Rational (Small (to_z w64 (of_z w64 x))) (Small (to_z w64 (of_z w64 y)))) ≡ plain_from 0 (drop 0 t)
    unfolding rational_of
    ratio_told x y b c =
        let r = sym (eq-eqb a (length t) last) ∙ ratio_run t o.end slash a i z d in
        real_ratio t 0 o.negative o.start o.end h.0 h.1 whole_run (λ q. omega arith) (omega (arith, digits_some)) r _
        (exact_ratio bought_reals 10 o.negative t o.start o.end slash_first _ _ _ l
        (outline_whole t 0 o h (omega arith) v (omega (arith, digits_some)) (omega arith) e digits_some x b) (under y c) refl)
