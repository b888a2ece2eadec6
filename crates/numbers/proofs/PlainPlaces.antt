-- The plainest shapes from place to place of a text, as the code walks it.
use Rattle.numbers.specs.Plain.{fraction, ratio, unsigned_plain, plain}
use Rattle.laws.specs.Quoted.{code}
use Rattle.laws.specs.Texts.{span, starts}
use Rattle.laws.proofs.Choice.{by_bool, and_no}
use Rattle.laws.proofs.Places.{past, cut_at}
use Rattle.digits.specs.Digits.{digits, sign, uinteger}
use Rattle.digits.proofs.Digits.{uinteger_past, uinteger_run}
use Prim.Native.Nat.{ℕ, ◌+◌, ◌≤◌, ◌<◌}
use mathlib.Core.Path.{◌≡◌, sym, ap, ◌∙◌}
use mathlib.Core.Bool.{Bool, true, false, ◌&&◌, ◌||◌}
use mathlib.Core.List.{List}
use lib.ListN.{length, get_or, drop}
use lib.Seq.{drop-drop, get_or-drop}
use lib.Dec.{eqb, ltb}
use native.Mathlib.Omega.{arith}
use borrow.Author.Tests.{eq-eqb, ne_eqb, lt-ltb, le-ltb, ltb-true, ltb-false}

module _ (t : List ℕ) (p : ℕ) where
  pub fraction_no : false ≡ starts (code ".") (drop p t) → false ≡ fraction (drop p t)
  fraction_no h = simp (← h)

  module _ (h : true ≡ starts (code ".") (drop p t)) where
    after_dot : uinteger 10 (drop (p + 1) t) ≡ fraction (drop p t)
    after_dot = simp (← h, drop-drop 1 p t)

    pub fraction_short : length t ≤ p + 1 → false ≡ fraction (drop p t)
    fraction_short l = uinteger_past 10 t (p + 1) l ∙ after_dot

    pub fraction_run : (e : ℕ) → p + 1 < length t → e ≡ p + 1 + digits 10 (drop (p + 1) t) → eqb e (length t) ≡ fraction (drop p t)
    fraction_run e l k = uinteger_run 10 t (p + 1) e l k ∙ after_dot

module _ (t : List ℕ) (p : ℕ) where
  pub ratio_no : false ≡ starts (code "/") (drop p t) → false ≡ ratio (drop p t)
  ratio_no h = simp (← h)

  module _ (h : true ≡ starts (code "/") (drop p t)) where
    after_slash : (ltb (code "0") (get_or t (p + 1) 0) && uinteger 10 (drop (p + 1) t)) ≡ ratio (drop p t)
    after_slash = simp (← h, drop-drop 1 p t, get_or-drop p t 1 0)

    pub ratio_short : length t ≤ p + 1 → false ≡ ratio (drop p t)
    ratio_short l = sym (rw (sym (uinteger_past 10 t (p + 1) l)) at (sym after_slash) ∙ and_no (ltb (code "0") (get_or t (p + 1) 0)))

    pub ratio_zero : get_or t (p + 1) 0 ≤ code "0" → false ≡ ratio (drop p t)
    ratio_zero l = rw (le-ltb (code "0") (get_or t (p + 1) 0) l) at after_slash

    pub ratio_run : (e : ℕ) → p + 1 < length t → code "0" < get_or t (p + 1) 0 → e ≡ p + 1 + digits 10 (drop (p + 1) t) → eqb e (length t) ≡ ratio (drop p t)
    ratio_run e l z k = uinteger_run 10 t (p + 1) e l k ∙ rw (lt-ltb (code "0") (get_or t (p + 1) 0) z) at after_slash

-- from the place q on, where the sign ends at p and the digits after it at e
module _ (t : List ℕ) (q p e : ℕ) (s : p ≡ q + sign (drop q t)) (d : e ≡ p + digits 10 (drop p t)) where
  unsigned : plain (drop q t) ≡ unsigned_plain (drop p t)
  unfolding plain
  unsigned = ap unsigned_plain (sym (cut_at t q (sign (drop q t)) p s))

  pub plain_digits_holds : e ≡ length t → ltb p e ≡ plain (drop q t)
  unfolding uinteger starts span
  plain_digits_holds f = by_bool (ltb p (length t))
      (λ h. let l = ltb-true p (length t) h in
      let u : true ≡ uinteger 10 (drop p t) = sym (eq-eqb e (length t) f) ∙ uinteger_run 10 t p e l d in
      lt-ltb p e (omega arith) ∙ sym (unsigned ∙ simp (← u)))
      (λ h. let l = ltb-false p (length t) h in
      le-ltb p e (omega arith) ∙ sym (unsigned ∙ rw (past t p l)))

  module _ (n : e ≡ length t → ⊥) where
    uninteger : false ≡ uinteger 10 (drop p t)
    uninteger = by_bool (ltb p (length t))
        (λ h. sym (ne_eqb e (length t) n) ∙ uinteger_run 10 t p e (ltb-true p (length t) h) d)
        (λ h. uinteger_past 10 t p (ltb-false p (length t) h))

    some_digits : ltb 0 (digits 10 (drop p t)) ≡ ltb p e
    some_digits = by_bool (ltb p e)
        (λ h. lt-ltb 0 (digits 10 (drop p t)) (omega (arith, ltb-true p e h)) ∙ sym h)
        (λ h. le-ltb 0 (digits 10 (drop p t)) (omega (arith, ltb-false p e h)) ∙ sym h)

    rest : plain (drop q t) ≡ (fraction (drop e t) || (ltb p e && ratio (drop e t)))
    rest = unsigned ∙ simp (← uninteger, ← cut_at t p (digits 10 (drop p t)) e d, some_digits)

    pub plain-fraction : true ≡ fraction (drop e t) → true ≡ plain (drop q t)
    plain-fraction h = sym (rest ∙ rw (sym h))

    module _ (f : false ≡ fraction (drop e t)) where
      pub plain-ratio : (r : Bool) → p < e → r ≡ ratio (drop e t) → r ≡ plain (drop q t)
      plain-ratio r l h = h ∙ sym (rest ∙ rw (sym f, lt-ltb p e l))

      pub plain_none : e ≤ p → false ≡ plain (drop q t)
      plain_none l = sym (rest ∙ rw (sym f, le-ltb p e l))
