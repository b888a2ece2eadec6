-- A test that passes at each number below a bound passes at any one of them: for tests of single ASCII characters, by computation.
use Prim.Native.Nat.{ℕ, zero, suc, ◌<◌}
use mathlib.Core.Path.{◌≡◌}
use mathlib.Core.Bool.{Bool, true, ◌&&◌}
use lib.Dec.{ltb}
use native.Mathlib.Omega.{arith}
use borrow.Author.Tests.{ltb-true, ltb-false}
use Rattle.laws.proofs.Choice.{by_bool}

unfoldable pub all_below : (ℕ → Bool) → ℕ → Bool
all_below f zero = true
all_below f (suc n) = f n && all_below f n

pub below_all : (f : ℕ → Bool) (n : ℕ) → all_below f n ≡ true → (c : ℕ) → c < n → f c ≡ true
unfolding all_below
below_all f zero h c l = absurd (omega arith)
below_all f (suc n) h c l =
    by_bool (f n)
    (λ e. by_bool (ltb c n) (λ q. below_all f n (rw e at h) c (ltb-true c n q)) (λ q. let i : c ≡ n = omega (arith, ltb-false c n q) in rw i e))
    (λ e. let z = rw e at h in cc)
