-- What the tests of a block of pairs say together.
use Prim.Native.Nat.{ℕ, ◌+◌, ◌≤◌, ◌<◌}
use native.Mathlib.Omega.{arith}
use mathlib.Core.Path.{◌≡◌, sym, subst, ◌∙◌}
use mathlib.Core.Bool.{Bool, true, ◌&&◌}
use mathlib.Core.List.{List}
use lib.Dec.{ltb}
use lib.ListN.{get_or}
use borrow.Author.Tests.{ltb-true, ltb-false}
use Rattle.laws.proofs.Choice.{by_bool, and_true}
use Rattle.byte_runs.specs.Pairs.{paired}

-- the bytes from a place up to another are paired with the next
abbrev pub PairedTo : List ℕ → ℕ → ℕ → Type 0
PairedTo t at i = (k : ℕ) → at ≤ k → k < i → paired (get_or t k 0) (get_or t (k + 1) 0) ≡ true

-- and one more
pub paired_next : (t : List ℕ) (at i : ℕ) (all x : Bool) → (all ≡ true → PairedTo t at i)
    → x ≡ paired (get_or t i 0) (get_or t (i + 1) 0) → (all && x) ≡ true → PairedTo t at (i + 1)
paired_next t at i all x before e h k low l =
    let both = and_true all x h in
    by_bool (ltb k i)
    (λ m. before both.0 k low (ltb-true k i m))
    (λ m. let q : i ≡ k = omega (arith, ltb-false k i m) in
    subst (λ (n : ℕ). paired (get_or t n 0) (get_or t (n + 1) 0) ≡ true) q (sym e ∙ both.1))
