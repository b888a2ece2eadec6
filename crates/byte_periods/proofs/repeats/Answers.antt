-- The bytes before the suffix are compared with those a period behind them.
use native.Mathlib.Omega.{arith}
use Prim.Native.Nat.{ℕ, ◌+◌, ◌<◌}
use mathlib.Core.Path.{◌≡◌, sym, ap, ◌∙◌}
use mathlib.Core.List.{List}
use borrow.Author.Tests.{eqb-true, eqb-false}
use Rattle.laws.proofs.Choice.{no_yes}
use Rattle.byte_runs.specs.Search.{Agree}
use Rattle.byte_periods.specs.Periods.{byte, Repeats}
use Rattle.byte_periods.proofs.repeats.Goals as goal

module _ (w : List ℕ) (p n r : ℕ) (agree : Agree w 0 p n r) where
  all-agree : r ≡ n → Repeats (byte w) n p
  all-agree e k h =
      let i : k + p ≡ p + k = omega arith in
      let z : 0 + k ≡ k = omega arith in
      ap (byte w) i ∙ sym (agree.1 k (omega arith)) ∙ ap (byte w) z

  not-all : (r ≡ n → ⊥) → Repeats (byte w) n p → ⊥
  not-all e all =
      let h : r < n = omega (arith, agree.0) in
      let i : p + r ≡ r + p = omega arith in
      let z : 0 + r ≡ r = omega arith in
      agree.2 h (ap (byte w) z ∙ sym (ap (byte w) i ∙ all r h))

pub returns-then-period-start : goal.returns-then-period-start
returns-then-period-start c = (λ e. no_yes e, λ e h. absurd (omega (arith, c.if-period-start.true)))

pub returns : goal.returns
returns c =
    let f = c.args in
    let w = f.w.now in
    let r = c.agreeing in (
      λ e. (omega (arith, c.if-period-start.false), all-agree w f.period f.start r.result r.ensures (eqb-true r.result f.start e)),
      λ e h. not-all w f.period f.start r.result r.ensures (eqb-false r.result f.start e),
    )
