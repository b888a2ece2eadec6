-- The invariant: what lies behind is a run of simple data.
use Prim.Native.Nat.{ℕ}
use native.Mathlib.Omega.{arith}
use mathlib.Core.Path.{◌≡◌, subst}
use Rattle.nested.specs.Said.{Simples}
use Rattle.nested.proofs.Runs.{simples_none, simples_more}
use Rattle.nested.proofs.simples_end.Goals as goal

pub loop-at-init : goal.loop-at-init
loop-at-init c = simples_none c.args.records.now c.args.from (omega (arith, c.requires.0, c.requires.1))

pub is_simple_at-requires : goal.is_simple_at-requires
is_simple_at-requires c = omega (arith, c.loop-at-test.true, c.requires.0)

pub returns-then-not-is_simple_at : goal.returns-then-not-is_simple_at
returns-then-not-is_simple_at c = c.loop-at.invariant

pub loop-at-preserved : goal.loop-at-preserved
loop-at-preserved c =
    let q = c.is_simple_at.ensures c.if-not-is_simple_at.false in
    simples_more c.args.records.now c.args.from c.loop-at.at
    q.0 (omega (arith, c.loop-at-test.true, c.requires.0)) q.1 c.loop-at.invariant

pub returns : goal.returns
returns c =
    let e : c.loop-at.at ≡ c.args.count = omega (arith, c.requires.1) in
    subst (λ (k : ℕ). Simples c.args.records.now c.args.from k) e c.loop-at.invariant
