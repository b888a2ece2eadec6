-- The real that one of the plainest numbers is, by its shape: it is no infinity, so that it is an integer, a decimal or a rational after its
-- sign; and a text that is one of them is ASCII and has that real alone.
use Rattle.std.proofs.Common.{Some, None, Option}
use Rattle.numbers.specs.declared.Real.{Real}
use Rattle.numbers.specs.declared.Real.TheVariants.{Integer}
use Rattle.numbers.specs.declared.Suffix.TheVariants.{Empty}
use Rattle.numbers.specs.AfterPlus.{is_real}
use Rattle.numbers.specs.Brief.{plain_from}
use Rattle.numbers.specs.Grammar.{zero_real}
use Rattle.numbers.specs.Plain.{fraction, ratio, plain}
use Rattle.numbers.specs.Reals.{point_of, decimal, infnan, integral_of, exact, or_else, ureal, real}
use Rattle.numbers.proofs.Ascii.{Ascii, ascii_good}
use Rattle.numbers.proofs.Grammars.{real_signed}
use Rattle.numbers.specs.Grammars.{bought_reals}
use Rattle.numbers.proofs.Decimals.{suffix_past, dotted_fraction, decimal_dot}
use Rattle.numbers.proofs.Plain.{All, Numeral, some, whole, uinteger_avoids, before_all, Good, no_decimal_lem, decimal_good, ratio-decimal, real_good, plain_first, plain_some}
use Rattle.numbers.proofs.PlainPlaces.{plain_digits_holds, plain-fraction, plain-ratio}
use Rattle.laws.specs.Quoted.{code}
use Rattle.laws.specs.Texts.{starts, same}
use Rattle.laws.proofs.Choice.{by_bool, and_true, and_no, no_yes, yes_no}
use Rattle.laws.proofs.Places.{cut_at}
use Rattle.chars.specs.Utf8.{first_bad}
use Rattle.digits.specs.declared.Int.{Int}
use Rattle.digits.specs.Digits.{digits, sign, uinteger, whole_of}
use Rattle.digits.proofs.Digits.{uinteger_run, uinteger_in}
use Prim.Native.Nat.{ℕ, ◌+◌, ◌≤◌, ◌<◌}
use mathlib.Core.Path.{◌≡◌, refl, sym, ap, ◌∙◌}
use mathlib.Core.Bool.{Bool, true, false}
use mathlib.Core.List.{List, [], ◌∷◌}
use lib.ListN.{length, drop}
use lib.Seq.{drop-drop}
use lib.Dec.{eqb}
use native.Mathlib.Omega.{arith}
use borrow.Author.Tests.{eq-eqb, ne_eqb, eqb-true, lt-ltb, le-ltb}

-- ---- no infinity

plain_finite : (s : List ℕ) → plain s ≡ true → infnan s ≡ None
unfolding infnan same
plain_finite [] h = no_yes (sym plain_some ∙ h)
plain_finite (c ∷ []) h = simp and_no
plain_finite (c ∷ d ∷ s) h =
    let n = (plain_first c (d ∷ s) h).2.0 in
    simp (ne_eqb d (code "i") (λ e. omega arith), ne_eqb d (code "n") (λ e. omega arith), and_no)

-- ---- after the sign

pub first_good : (x y : Option Real) → Good x → or_else x y ≡ x
unfolding or_else
first_good (Some r) y g = refl
first_good None y g = absurd g

module _ (neg : Bool) (p : ℕ) (s : List ℕ) where
  ureal_whole : uinteger 10 s ≡ true → ureal 10 neg p s ≡ integral_of (whole_of 10 neg p s)
  unfolding ureal or_else exact
  ureal_whole h =
      simp (no_decimal_lem neg p s h, before_all (code "/") s (uinteger_avoids s h), le-ltb (length s) (length s) (omega arith))

  ureal-decimal : fraction (drop (digits 10 s) s) ≡ true → ureal 10 neg p s ≡ decimal neg p s
  unfolding ureal
  ureal-decimal h = first_good (decimal neg p s) (exact 10 neg p s) (decimal_good neg p s h)

  ureal-ratio : ratio (drop (digits 10 s) s) ≡ true → ureal 10 neg p s ≡ exact 10 neg p s
  unfolding ureal or_else
  ureal-ratio h = simp (ratio-decimal neg p s h)

-- a slash is no dot
slash_fraction : (s : List ℕ) → true ≡ ratio s → false ≡ fraction s
unfolding starts
slash_fraction [] h = refl
slash_fraction (c ∷ s) h =
    let d = eqb-true c (code "/") (and_true (eqb c (code "/")) _ (sym h)).0 in simp (ne_eqb c (code ".") (λ e. omega arith))

-- ---- the text from the place q on: the sign ends at p, the digits after it at e

module _ (t : List ℕ) (q : ℕ) (neg : Bool) (p e : ℕ) (n : neg ≡ starts (code "-") (drop q t)) (s : p ≡ q + sign (drop q t))
    (d : e ≡ p + digits 10 (drop p t)) where
  after_sign : plain (drop q t) ≡ true → ureal 10 neg p (drop p t) ≡ plain_from q (drop q t)
  unfolding plain_from
  after_sign h =
      real_signed bought_reals 10 t q (infnan (drop q t)) refl (ureal 10 neg p (drop p t)) neg p (plain_finite (drop q t) h) n s refl ∙ simp h

  run_in : p ≤ e
  run_in = omega arith

  pub real_whole : e ≡ length t → p < e → (x : Int) → Some x ≡ whole_of 10 neg p (drop p t) → Some (Integer x) ≡ plain_from q (drop q t)
  unfolding integral_of
  real_whole f l x h =
      let u = sym (eq-eqb e (length t) f) ∙ uinteger_run 10 t p e (omega arith) d in
      ap integral_of h ∙ sym (ureal_whole neg p (drop p t) (sym u)) ∙ after_sign (sym (plain_digits_holds t q p e s d f) ∙ lt-ltb p e l)

  module _ (k : e ≡ length t → ⊥) where
    pub real_fraction : true ≡ fraction (drop e t) → (r : Option Real)
        → r ≡ point_of neg (record { start = p; end = e }) (record { start = e + 1; end = length t }) Empty → r ≡ plain_from q (drop q t)
    real_fraction h r z =
        let a = and_true (starts (code ".") (drop e t)) (uinteger 10 (drop 1 (drop e t))) (sym h) in
        let u : uinteger 10 (drop (e + 1) t) ≡ true = ap (uinteger 10) (sym (drop-drop 1 e t)) ∙ a.1 in
        let b = uinteger_in 10 t (e + 1) (sym u) in
        let w = whole (drop (e + 1) t) u in
        let m = some (drop (e + 1) t) u in
        decimal_dot neg t p e d r (sym a.0)
        (dotted_fraction neg t p e (e + 1) (length t) run_in (omega arith) r Empty (suffix_past t (length t) (omega arith)) z (λ i. omega arith))
        ∙ sym (ureal-decimal neg p (drop p t) (ap fraction (sym (cut_at t p (digits 10 (drop p t)) e d)) ∙ sym h))
        ∙ after_sign (sym (plain-fraction t q p e s d k h))

    pub real_ratio : p < e → true ≡ ratio (drop e t) → (r : Option Real) → r ≡ exact 10 neg p (drop p t) → r ≡ plain_from q (drop q t)
    real_ratio l h r z =
        z ∙ sym (ureal-ratio neg p (drop p t) (ap ratio (sym (cut_at t p (digits 10 (drop p t)) e d)) ∙ sym h))
        ∙ after_sign (sym (plain-ratio t q p e s d k (slash_fraction (drop e t) h) true l h))

-- ---- what has such a real

numerals_ascii : (s : List ℕ) → All Numeral s → Ascii s
numerals_ascii [] h = tt
numerals_ascii (c ∷ s) h = let n = h.0.1 in (omega arith, numerals_ascii s h.1)

pub plain_ascii : (s : List ℕ) → plain s ≡ true → Ascii s
plain_ascii [] h = tt
plain_ascii (c ∷ s) h = let n = plain_first c s h in let u = n.1 in (omega arith, numerals_ascii s n.2)

pub plain_good : (s : List ℕ) → plain s ≡ true → first_bad s ≡ None
plain_good s h = ascii_good s (plain_ascii s h)

-- one that is told
pub plain-told : (p : ℕ) (s : List ℕ) (x : Real) → Some x ≡ plain_from p s → (plain s ≡ true) × (Some x ≡ real 10 p s) × (zero_real x ≡ false)
unfolding plain_from
plain-told p s x e = by_bool (plain s)
    (λ h. let r : Some x ≡ real 10 p s = simp h at e in
    let g : zero_real x ≡ false = rw (sym r) at (real_good p s h) in (h, r, g))
    (λ h. let r : Some x ≡ None = simp h at e in yes_no (ap is_real r))
