-- The searches from the last record back: what one record more says.
use Prim.Native.Nat.{ℕ, zero, suc, ◌-◌, ◌<◌}
use mathlib.Core.Path.{◌≡◌, refl}
use mathlib.Core.Bool.{true, false}
use mathlib.Core.List.{List}
use native.Mathlib.Omega.{arith}
use native.Mathlib.Numerals.{unary_clauses}
use Rattle.laws.proofs.Choice.{if_yes, if_no}
use Rattle.items_exports.specs.Records.{opens_inside, open_before, inside, record_fits, first_fit}
use Rattle.items_exports.proofs.BothTests.{both_no, both_yes}

module _ (s : List ℕ) (d none : ℕ) where
  pub open_here : (l : ℕ) → 0 < l → opens_inside s d (l - 1) ≡ true → l - 1 ≡ open_before s d none l
  unfolding open_before
  open_here zero h e = absurd (omega (arith, h))
  open_here (suc l) h e = simp unary_clauses (if_yes _ _ _ (simp unary_clauses at e) refl)

  pub open_earlier : (l : ℕ) → 0 < l → opens_inside s d (l - 1) ≡ false → open_before s d none (l - 1) ≡ open_before s d none l
  unfolding open_before
  open_earlier zero h e = absurd (omega (arith, h))
  open_earlier (suc l) h e = simp unary_clauses (if_no _ _ _ (simp unary_clauses at e) refl)

  pub open_none : (l : ℕ) → l ≡ 0 → none ≡ open_before s d none l
  unfolding open_before
  open_none l e = rw e refl

-- the depth tells whether a record lies in a bracket
pub inside_none : (s : List ℕ) (none at d : ℕ) → d ≡ 0 → none ≡ inside s none at d
inside_none s none at d e = rw e refl

pub inside_some : (s : List ℕ) (none at d : ℕ) → 0 < d → open_before s (d - 1) none at ≡ inside s none at d
inside_some s none at zero h = absurd (omega (arith, h))
inside_some s none at (suc d) h = simp unary_clauses refl

module _ (s : List ℕ) (n m : ℕ) where
  pub fit_fails : (l : ℕ) → 0 < l → record_fits s n m (l - 1) ≡ false → false ≡ first_fit s n m l
  unfolding first_fit
  fit_fails zero h e = absurd (omega (arith, h))
  fit_fails (suc l) h e = both_no _ _ (simp unary_clauses at e)

  pub fit_earlier : (l : ℕ) → 0 < l → record_fits s n m (l - 1) ≡ true → first_fit s n m (l - 1) ≡ first_fit s n m l
  unfolding first_fit
  fit_earlier zero h e = absurd (omega (arith, h))
  fit_earlier (suc l) h e = simp unary_clauses (both_yes _ _ (simp unary_clauses at e))

  pub fit_none : (l : ℕ) → l ≡ 0 → true ≡ first_fit s n m l
  unfolding first_fit
  fit_none l e = rw e refl
