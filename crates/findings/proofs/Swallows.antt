-- How the search for a swallowed line's end goes on at a place.
use Prim.Native.Nat.{ℕ, ◌+◌, ◌≤◌, ◌<◌}
use mathlib.Core.Path.{◌≡◌}
use mathlib.Core.Bool.{Bool, true, false, ◌&&◌}
use mathlib.Core.List.{List}
use lib.Dec.{eqb}
use lib.ListN.{length, get_or, drop}
use borrow.Author.Tests.{eq-eqb, ne_eqb}
use Rattle.laws.specs.Quoted.{code}
use Rattle.laws.proofs.Places.{past, here}
use Rattle.findings.specs.Lines.{is_space}
use Rattle.findings.specs.Slips.{swallows}

module _ (s : List ℕ) (i : ℕ) (fresh : Bool) where
  pub swallow_end : length s ≤ i → swallows fresh (drop i s) ≡ false
  unfolding swallows
  swallow_end h = rw (past s i h)

  module _ (h : i < length s) where
    pub swallow_newline : get_or s i 0 ≡ code "\n" → swallows fresh (drop i s) ≡ swallows true (drop (i + 1) s)
    unfolding swallows
    swallow_newline e = rw (here s i h) (rw (eq-eqb (get_or s i 0) (code "\n") e))

    module _ (n : get_or s i 0 ≡ code "\n" → ⊥) where
      pub swallow_open : (fresh && eqb (get_or s i 0) (code "(")) ≡ true → swallows fresh (drop i s) ≡ true
      unfolding swallows
      swallow_open e = rw (here s i h) (rw (ne_eqb (get_or s i 0) (code "\n") n, e))

      pub swallow_on : (fresh && eqb (get_or s i 0) (code "(")) ≡ false → swallows fresh (drop i s) ≡ swallows (fresh && is_space (get_or s i 0)) (drop (i + 1) s)
      unfolding swallows
      swallow_on e = rw (here s i h) (rw (ne_eqb (get_or s i 0) (code "\n") n, e))
