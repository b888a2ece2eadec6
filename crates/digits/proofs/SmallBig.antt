-- "Small within signed 64 bits, else Big with its digit places" (01, Integer): what digits after a sign are, exactly. SFits w64 z says that
-- 64 bits hold z in two's complement, -2^63 ≤ z < 2^63.
use Rattle.std.proofs.Common.{None, Some}
use Rattle.digits.specs.declared.Int.TheVariants.{Small, Big}
use Rattle.digits.specs.Digits.{uinteger, value, signed, top, span_at, whole_of}
use Rattle.digits.proofs.Integers.{signed_fits}
use Rattle.laws.proofs.Choice.{by_bool}
use Prim.Native.Nat.{ℕ, zero, suc, ◌<◌}
use mathlib.Core.Path.{◌≡◌}
use mathlib.Core.Bool.{Bool, true, false}
use mathlib.Core.List.{List}
use lib.ListN.{length}
use mir.Syntax.{w64}
use mir.Val.{SFits}
use lib.Dec.{lit<, ltb}
use native.Mathlib.Omega.{arith}
use borrow.Author.Tests.{lt-ltb, ltb-true}

-- the definition's test is that of the range
pub signed_within : (neg : Bool) (m : ℕ) → SFits w64 (signed neg m) → m < top neg
unfolding signed
signed_within false m h = h.sfits
signed_within true zero h = lit< tt
signed_within true (suc k) h = omega (arith, h.sfits)

module _ (R : ℕ) (neg : Bool) (p : ℕ) (s : List ℕ) where
  pub no_integer : uinteger R s ≡ false → whole_of R neg p s ≡ None
  unfolding whole_of
  no_integer u = simp u

  module _ (u : uinteger R s ≡ true) where
    pub small_exactly : SFits w64 (signed neg (value R 0 s)) → whole_of R neg p s ≡ Some (Small (signed neg (value R 0 s)))
    unfolding whole_of
    small_exactly h = simp (u, lt-ltb (value R 0 s) (top neg) (signed_within neg (value R 0 s) h))

    pub big_exactly : (SFits w64 (signed neg (value R 0 s)) → ⊥) → whole_of R neg p s ≡ Some (Big neg (span_at p (length s)))
    unfolding whole_of
    big_exactly h =
        by_bool (ltb (value R 0 s) (top neg))
        (λ e. absurd (h (signed_fits neg (value R 0 s) (ltb-true _ _ e))))
        (λ e. simp (u, e))
