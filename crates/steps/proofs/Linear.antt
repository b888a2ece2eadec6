-- The delimiter's bytes that stand at a place, moved along themselves (byte_periods): where the delimiter cannot stand, and what stands where it may.
use Prim.Native.Nat.{ℕ, ◌+◌, ◌-◌, ◌≤◌, ◌<◌}
use native.Mathlib.Omega.{arith}
use mathlib.Core.Path.{◌≡◌, sym, ap, subst, ◌∙◌}
use mathlib.Core.Bool.{true, false}
use mathlib.Core.List.{List}
use lib.Dec.{eqb, ltb}
use lib.ListN.{length, get_or, take, drop, length-drop}
use lib.Seq.{get_or-drop, get_or-take, length-take-le}
use borrow.Author.Tests.{eqb-true, eqb-false, ltb-true, ltb-false}
use Rattle.laws.specs.Texts.{begins}
use Rattle.laws.proofs.Choice.{by_bool}
use Rattle.byte_periods.specs.Periods.{byte, Period, Stays, Moves}
use Rattle.byte_periods.proofs.Periodic.{suffixed_there}
use Rattle.steps.proofs.Sought.{begins_same}

-- the first n bytes of the delimiter d stand at a place of s, and another byte behind them
module _ (d s : List ℕ) (at n : ℕ) (room : at + n + 1 ≤ length s) (stands : (q : ℕ) → q < n → get_or s (at + q) 0 ≡ get_or d q 0) (few : n ≤ length d) where
  abbrev w : List ℕ
  w = take (at + n + 1 - at) (drop at s)

  pub size : length w ≡ n + 1
  size = length-take-le (at + n + 1 - at) (drop at s) (omega (arith, length-drop at s)) ∙ omega arith

  cut : (q : ℕ) → q < n + 1 → byte w q ≡ get_or s (at + q) 0
  cut q h = get_or-take (at + n + 1 - at) (drop at s) q 0 (omega arith) ∙ get_or-drop at s q 0

  in_both : (q : ℕ) → q < n → byte w q ≡ byte d q
  in_both q h = cut q (omega arith) ∙ stands q h

  pub stays_here : (kept a p : ℕ) → kept ≤ n → Stays (byte d) kept a p → Stays (byte w) kept a p
  stays_here kept a p h stays some =
      suffixed_there (byte d) (byte w) kept (λ q l. sym (in_both q (omega arith))) kept a p kept (omega arith) (omega arith) (stays some)

  module _ (by kept : ℕ) (m : Moves (byte w) (length w) by kept) where
    pub as_near : by ≤ n + 1
    as_near = omega (arith, m.near, size)

    pub as_few : (kept ≤ n) × (by + kept ≤ n + 1)
    as_few = let some = m.some in (omega (arith, m.inside, size), omega (arith, m.near, m.inside, size))

    pub stays_there : (a p : ℕ) → Stays (byte w) kept a p → Stays (byte d) kept a p
    stays_there a p stays some =
        let few = as_few.0 in
        suffixed_there (byte w) (byte d) kept (λ q l. in_both q (omega arith)) kept a p kept (omega arith) (omega arith) (stays some)

    -- a delimiter that stood between the two places would be a period
    period : (k : ℕ) → at < k → begins d (drop k s) ≡ true → Period (byte w) (length w) (k - at)
    period k h e q l =
        let i : at + (q + (k - at)) ≡ k + q = omega arith in
        let less : q + (k - at) < n + 1 = omega (arith, l, size) in
        cut (q + (k - at)) less ∙ ap (byte s) i ∙ sym (get_or-drop k s q 0) ∙ begins_same d (drop k s) e q (omega arith) ∙ sym (in_both q (omega arith))

    passed : (k : ℕ) → at < k → k < at + by → begins d (drop k s) ≡ false
    passed k h l =
        by_bool (begins d (drop k s)) (λ e. absurd (m.least (k - at) (omega arith) (omega arith) (period k h e))) (λ e. e)

    -- up to the place moved to
    pub clear_on : (from : ℕ) → ((k : ℕ) → from ≤ k → k < at → begins d (drop k s) ≡ false) → begins d (drop at s) ≡ false → (k : ℕ) → from ≤ k
        → k < at + by → begins d (drop k s) ≡ false
    clear_on from clear here k h l =
        by_bool (ltb k at)
        (λ e. clear k h (ltb-true k at e))
        (λ e. by_bool (eqb k at)
        (λ q. let i : at ≡ k = sym (eqb-true k at q) in subst (λ (j : ℕ). begins d (drop j s) ≡ false) i here)
        (λ q. passed k (omega (arith, ltb-false k at e, eqb-false k at q)) l))

    pub stood : (q : ℕ) → q < kept → get_or s (at + by + q) 0 ≡ get_or d q 0
    stood q h =
        let few = as_few in
        let i : at + by + q ≡ at + (q + by) = omega arith in
        ap (byte s) i ∙ sym (cut (q + by) (omega (arith, few.1))) ∙ m.agrees q h ∙ in_both q (omega (arith, few.0))
