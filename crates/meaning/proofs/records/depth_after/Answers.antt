-- Each way the tests go is an arm of the definition: a kind past the second is no bracket, and of the two the one that is not the first
-- is the second.
use borrow.Author.Tests.{eq-eqb, ne_eqb, lt-ltb, le-ltb}
use mathlib.Core.Path.{◌≡◌}
use Prim.Native.Nat.{ℕ, ◌≤◌}
use native.Mathlib.Omega.{arith}
use Rattle.items.specs.Kinds as kind
use Rattle.meaning.proofs.records.depth_after.Goals as goal

closes : (k : ℕ) → k ≤ kind.CloseParen → (k ≡ kind.OpenParen → ⊥) → k ≡ kind.CloseParen
closes k h n = omega (arith, n)

pub returns-then-kind-gt-CLOSE_PAREN : goal.returns-then-kind-gt-CLOSE_PAREN
returns-then-kind-gt-CLOSE_PAREN c =
    let k : ℕ = c.args.kind in
    simp (ne_eqb k kind.OpenParen (λ e. omega (arith, c.if-kind-gt-CLOSE_PAREN.true)), ne_eqb k kind.CloseParen (λ e. omega (arith, c.if-kind-gt-CLOSE_PAREN.true)))

pub returns-then-depth-lt-MOST_OPEN : goal.returns-then-depth-lt-MOST_OPEN
returns-then-depth-lt-MOST_OPEN c = simp (eq-eqb _ _ c.if-kind-eq-OPEN_PAREN.true, lt-ltb _ _ c.if-depth-lt-MOST_OPEN.true) (omega arith)

pub returns-then-kind-eq-OPEN_PAREN : goal.returns-then-kind-eq-OPEN_PAREN
returns-then-kind-eq-OPEN_PAREN c = simp (eq-eqb _ _ c.if-kind-eq-OPEN_PAREN.true, le-ltb _ _ c.if-depth-lt-MOST_OPEN.false)

pub returns-then-depth-eq0 : goal.returns-then-depth-eq0
returns-then-depth-eq0 c =
    let k : ℕ = c.args.kind in
    simp (ne_eqb _ _ c.if-kind-eq-OPEN_PAREN.false, eq-eqb _ _ (closes k c.if-kind-gt-CLOSE_PAREN.false c.if-kind-eq-OPEN_PAREN.false)) (omega (arith, c.if-depth-eq0.true))

pub returns : goal.returns
returns c =
    let k : ℕ = c.args.kind in
    simp (ne_eqb _ _ c.if-kind-eq-OPEN_PAREN.false, eq-eqb _ _ (closes k c.if-kind-gt-CLOSE_PAREN.false c.if-kind-eq-OPEN_PAREN.false))
