-- A zero denominator, the prefix, and the whole text.
use Rattle.std.proofs.Common.{None, Option, Some, Ok, Err}
use Rattle.numbers.specs.declared.Real.{Real}
use Rattle.numbers.specs.declared.Real.TheVariants.{Integer, Rational, Decimal, PosInf, NegInf, PosNan, NegNan, ImpliedZero, ImpliedOne}
use Rattle.numbers.specs.declared.Parts.{Parts}
use Rattle.numbers.specs.declared.Parts.TheVariants.{Just, Complex, Polar}
use Rattle.numbers.specs.declared.ParseError.TheVariants.{NoNumber, ZeroDenominator}
use Rattle.numbers.specs.Grammar.{complex, zero_int, zero_real, zero_parts, judged, radix_mark, prefix, parse_number, Parsed}
use Rattle.numbers.specs.Grammars.{parts_by}
use Rattle.laws.specs.Quoted.{code}
use Rattle.laws.proofs.Choice.{by_bool, if_all}
use Rattle.digits.specs.declared.Span.{Span}
use Rattle.digits.specs.declared.Int.{Int}
use Rattle.digits.specs.declared.Int.TheVariants.{Small, Big}
use Prim.Native.Nat.{ℕ, ◌≤◌, ◌<◌}
use mathlib.Core.Path.{◌≡◌, refl, sym, ap, ◌∙◌}
use mathlib.Core.Bool.{Bool, true, false, ◌||◌}
use mathlib.Core.List.{List}
use mathlib.Core.Logic.{◌⊎◌, inl, inr}
use lib.ListN.{length, get_or, drop, get_or-eq_default}
use lib.IntN.{ℤ, pos, negsuc}
use mir.Syntax.{w64}
use mir.Val.{to_z, of_z}
use lib.Dec.{lit≤, eqb}
use native.Mathlib.Omega.{arith}
use borrow.Author.Tests.{eq-eqb, ne_eqb, eqb-true, eqb-false}

module _ (n : Int) where
  pub zero_big : (b : Bool) (s : Span) → n ≡ Big b s → false ≡ zero_int n
  unfolding zero_int
  zero_big b s e = rw e

  -- the test is made on the 64 bits of v
  module _ (v : ℤ) (e : n ≡ Small v) (f : to_z w64 (of_z w64 v) ≡ v) where
    zero_yes : of_z w64 v ≡ 0 → true ≡ zero_int n
    unfolding zero_int
    zero_yes z = let k : v ≡ pos 0 = sym f ∙ ap (to_z w64) z in rw (e, k)

    zero_no : (of_z w64 v ≡ 0 → ⊥) → false ≡ zero_int n
    unfolding zero_int
    zero_no z = rw e (go v z)
      where
        go : (v : ℤ) → (of_z w64 v ≡ 0 → ⊥) → false ≡ zero_int (Small v)
        go (pos n) z = sym (ne_eqb n 0 z)
        go (negsuc n) z = refl

    pub zero_small : eqb (of_z w64 v) 0 ≡ zero_int n
    zero_small = by_bool (eqb (of_z w64 v) 0) (λ b. b ∙ zero_yes (eqb-true _ _ b)) (λ b. b ∙ zero_no (eqb-false _ _ b))

pub zero_ratio : (a : Real) (x d : Int) (r : Bool) → a ≡ Rational x d → r ≡ zero_int d → r ≡ zero_real a
unfolding zero_real
zero_ratio a x d r e z = rw e z

pub zero_other : (a : Real) → ((x d : Int) → a ≡ Rational x d → ⊥) → false ≡ zero_real a
unfolding zero_real
zero_other (Rational x d) h = absurd (h x d refl)
zero_other (Integer n) h = refl
zero_other (Decimal d) h = refl
zero_other PosInf h = refl
zero_other NegInf h = refl
zero_other PosNan h = refl
zero_other NegNan h = refl
zero_other ImpliedZero h = refl
zero_other (ImpliedOne n) h = refl

module _ (p : Parts) where
  pub zero_just : (a : Real) (r : Bool) → p ≡ Just a → r ≡ zero_real a → r ≡ zero_parts p
  unfolding zero_parts
  zero_just a r e z = rw e z

  module _ (a b : Real) where
    pub zero_first : (p ≡ Complex a b) ⊎ (p ≡ Polar a b) → true ≡ zero_real a → true ≡ zero_parts p
    unfolding zero_parts
    zero_first (inl e) z = simp (e, ← z)
    zero_first (inr e) z = simp (e, ← z)

    pub zero_second : (p ≡ Complex a b) ⊎ (p ≡ Polar a b) → (r : Bool) → false ≡ zero_real a → r ≡ zero_real b → r ≡ zero_parts p
    unfolding zero_parts
    zero_second (inl e) r z f = simp (e, ← z) f
    zero_second (inr e) r z f = simp (e, ← z) f

module _ (m : Option Parts) where
  pub judge_zero : (p : Parts) → m ≡ Some p → true ≡ zero_parts p → (Err ZeroDenominator) ≡ judged m
  unfolding judged
  judge_zero p e z = simp (e, ← z)

  pub judge_is : (p : Parts) → m ≡ Some p → false ≡ zero_parts p → Ok p ≡ judged m
  unfolding judged
  judge_is p e z = simp (e, ← z)

  pub judge_no : m ≡ None → (Err NoNumber) ≡ judged m
  unfolding judged
  judge_no e = rw e

-- the letters of a radix
module _ (c : ℕ) where
  pub mark_16 : (c ≡ code "X") ⊎ (c ≡ code "x") → 16 ≡ radix_mark c
  unfolding radix_mark
  mark_16 (inl e) = rw e
  mark_16 (inr e) = rw e

  pub mark_10 : (c ≡ code "D") ⊎ (c ≡ code "d") → 10 ≡ radix_mark c
  unfolding radix_mark
  mark_10 (inl e) = rw e
  mark_10 (inr e) = rw e

  pub mark_8 : (c ≡ code "O") ⊎ (c ≡ code "o") → 8 ≡ radix_mark c
  unfolding radix_mark
  mark_8 (inl e) = rw e
  mark_8 (inr e) = rw e

  pub mark_2 : (c ≡ code "B") ⊎ (c ≡ code "b") → 2 ≡ radix_mark c
  unfolding radix_mark
  mark_2 (inl e) = rw e
  mark_2 (inr e) = rw e

  pub mark_none : ((c ≡ code "X") ⊎ (c ≡ code "x") → ⊥) → ((c ≡ code "D") ⊎ (c ≡ code "d") → ⊥) → ((c ≡ code "O") ⊎ (c ≡ code "o") → ⊥)
      → ((c ≡ code "B") ⊎ (c ≡ code "b") → ⊥) → 0 ≡ radix_mark c
  unfolding radix_mark
  mark_none x d o b =
      simp (
        ne_eqb c (code "x") (λ e. x (inr e)),
        ne_eqb c (code "X") (λ e. x (inl e)),
        ne_eqb c (code "d") (λ e. d (inr e)),
        ne_eqb c (code "D") (λ e. d (inl e)),
        ne_eqb c (code "o") (λ e. o (inr e)),
        ne_eqb c (code "O") (λ e. o (inl e)),
        ne_eqb c (code "b") (λ e. b (inr e)),
        ne_eqb c (code "B") (λ e. b (inl e)),
      )

  mark_le : radix_mark c ≤ 16
  unfolding radix_mark
  mark_le =
      if_all (λ r. r ≤ 16) (eqb c (code "x") || eqb c (code "X")) (lit≤ tt)
      (if_all (λ r. r ≤ 16) (eqb c (code "d") || eqb c (code "D")) (lit≤ tt)
      (if_all (λ r. r ≤ 16) (eqb c (code "o") || eqb c (code "O")) (lit≤ tt)
      (if_all (λ r. r ≤ 16) (eqb c (code "b") || eqb c (code "B")) (lit≤ tt) (lit≤ tt))))

-- the prefix
module _ (s : List ℕ) where
  pub prefix_short : length s < 2 → 0 ≡ prefix s
  unfolding prefix radix_mark
  prefix_short h = rw (get_or-eq_default s 0 {n = 1} (omega arith)) (if_all (λ r. 0 ≡ r) (eqb (get_or s 0 0) (code "#")) refl refl)

  pub prefix_mark : (r : ℕ) → get_or s 0 0 ≡ code "#" → r ≡ radix_mark (get_or s 1 0) → r ≡ prefix s
  unfolding prefix
  prefix_mark r h e = simp (h) e

  pub prefix_none : (get_or s 0 0 ≡ code "#" → ⊥) → 0 ≡ prefix s
  unfolding prefix
  prefix_none h = simp (ne_eqb (get_or s 0 0) (code "#") h)

  pub prefix_le : prefix s ≤ 16
  unfolding prefix
  prefix_le = if_all (λ r. r ≤ 16) (eqb (get_or s 0 0) (code "#")) (mark_le (get_or s 1 0)) (lit≤ tt)

  module _ (m : ℕ) (b : Option Parts) (r : Parsed) (p : m ≡ prefix s) where
    pub parse_ten : m ≡ 0 → b ≡ complex 10 0 s → r ≡ judged b → r ≡ parse_number s
    unfolding parse_number
    parse_ten z e f = simp (← p, eq-eqb m 0 z, ← e) f

    pub parse_radix : (m ≡ 0 → ⊥) → b ≡ complex m 2 (drop 2 s) → r ≡ judged b → r ≡ parse_number s
    unfolding parse_number
    parse_radix z e f = simp (← p, ne_eqb m 0 z, ← e) f

-- a text's parts by a grammar's <complex R>, the prefix m
module _ (whole : ℕ → ℕ → List ℕ → (Option Parts)) (s : List ℕ) (m : ℕ) (p : m ≡ prefix s) (r : Option Parts) where
  pub parts_ten : m ≡ 0 → r ≡ whole 10 0 s → r ≡ parts_by whole s
  parts_ten z e = simp (← p, eq-eqb m 0 z) e

  pub parts_radix : (m ≡ 0 → ⊥) → r ≡ whole m 2 (drop 2 s) → r ≡ parts_by whole s
  parts_radix z e = simp (← p, ne_eqb m 0 z) e

pub parse_parts : (s : List ℕ) (b : Option Parts) (r : Parsed) → b ≡ parts_by complex s → r ≡ judged b → r ≡ parse_number s
unfolding parse_number
parse_parts s b r e f = f ∙ ap judged e ∙ by_bool (eqb (prefix s) 0) (λ z. simp z) (λ z. simp z)
