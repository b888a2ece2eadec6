-- A rule that a test computes for every row of a table holds at each row.
use Prim.Native.Nat.{ℕ, zero, suc, ◌≤◌, ◌<◌, ◌^◌}
use mathlib.Core.Bool.{Bool, true, ◌&&◌}
use mathlib.Core.List.{List, [], ◌∷◌}
use mathlib.Core.Path.{◌≡◌, refl, ap, ◌∙◌}
use native.Mathlib.Omega.{arith}
use borrow.Author.Tests.{eqb-true, eqb-false, leb-true}
use lib.Dec.{eqb, leb}
use lib.ListN.{get_or}
use Rattle.laws.proofs.Choice.{by_bool, and_true}

-- whether the test f passes on each number below n
abbrev pub passes : ℕ → (ℕ → Bool) → Bool
passes zero f = true
passes (suc n) f = f n && passes n f

pub passes_at : (n : ℕ) (f : ℕ → Bool) → passes n f ≡ true → (k : ℕ) → k < n → f k ≡ true
passes_at zero f e k h = absurd (omega arith)
passes_at (suc n) f e k h =
    let both = and_true (f n) (passes n f) e in
    by_bool (eqb k n) (λ q. ap f (eqb-true k n q) ∙ both.0) (λ q. let d = eqb-false k n q in passes_at n f both.1 k (omega arith))

-- ---- powers

abbrev power : List ℕ → ℕ → ℕ → Bool
power l b k = eqb (get_or l k 0) (b ^ k) && leb 1 (get_or l k 0)

is_power : (l : List ℕ) (b k : ℕ) → power l b k ≡ true → (get_or l k 0 ≡ b ^ k) × (1 ≤ get_or l k 0)
is_power l b k e =
    let both = and_true (eqb (get_or l k 0) (b ^ k)) (leb 1 (get_or l k 0)) e in (eqb-true (get_or l k 0) (b ^ k) both.0, leb-true 1 (get_or l k 0) both.1)

powers_at : (l : List ℕ) (b n : ℕ) → passes n (power l b) ≡ true → (k : ℕ) → k < n → (get_or l k 0 ≡ b ^ k) × (1 ≤ get_or l k 0)
powers_at l b n e k h = is_power l b k (passes_at n (power l b) e k h)

abbrev tens : List ℕ
tens = 1 ∷ 10 ∷ 100 ∷ 1000 ∷ 10000 ∷ 100000 ∷ 1000000 ∷ 10000000 ∷ 100000000 ∷ 1000000000 ∷ 10000000000 ∷ 100000000000 ∷ 1000000000000 ∷ 10000000000000 ∷ 100000000000000 ∷ 1000000000000000 ∷ 10000000000000000 ∷ 100000000000000000 ∷ 1000000000000000000 ∷ 10000000000000000000 ∷ []

abbrev sixteens : List ℕ
sixteens = 1 ∷ 16 ∷ 256 ∷ 4096 ∷ 65536 ∷ 1048576 ∷ []

pub tens_at : (k : ℕ) → k < 20 → (get_or tens k 0 ≡ 10 ^ k) × (1 ≤ get_or tens k 0)
tens_at k h = powers_at tens 10 20 refl k h

pub sixteens_at : (k : ℕ) → k < 6 → (get_or sixteens k 0 ≡ 16 ^ k) × (1 ≤ get_or sixteens k 0)
sixteens_at k h = powers_at sixteens 16 6 refl k h
