-- R7RS 7.1.1, <number> whole: <num R> → <prefix R> <complex R> of radix 2, 8, 10 and 16, real, rectangular and polar, over the productions of
-- crate numbers_difference, with the parts that they give.
use Rattle.std.specs.Prelude.{ℕ, ◌≡◌, false, List, ◌++◌, length}
use Rattle.numbers.specs.declared.Parts.{Parts}
use Rattle.numbers.specs.Grammar.{zero_parts}
use Rattle.numbers_difference.specs.Productions.{Prefix}
use Rattle.numbers_difference.specs.R7rs.{ComplexAt}
use Rattle.numbers_difference.specs.Conditions.{capital, sign_after_odd_e}

-- Departures, in the order of the conditions: letters of i, inf and nan in upper case (B19); after #x, a sign after an odd number of e's
-- (B20); a zero denominator (B15). <exactness> is not in these productions (B14)
pub data Written : List ℕ → Parts → Type 0 where
  written : {R : ℕ} {g s : List ℕ} {a : Parts} → Prefix R g → ComplexAt R (length g) s a
      → capital false s ≡ false → (R ≡ 16 → sign_after_odd_e false s ≡ false) → zero_parts a ≡ false → Written (g ++ s) a
