-- The loop goes back, and keeps that the last row before p that passes is the last before i.
use mathlib.Core.Path.{refl, sym, ◌∙◌}
use native.Mathlib.Omega.{arith}
use Rattle.findings.proofs.Searches.{last_end, last_hit, last_miss}
use Rattle.findings.proofs.lists.last_passing.Goals as goal

pub loop-i-init : goal.loop-i-init
loop-i-init g c = (omega arith, refl)

pub returns-then-holds : goal.returns-then-holds
returns-then-holds g c =
    last_hit (g.T.RowTest.passes c.args.test c.args.rows.now c.args.p) _ _ c.loop-i.invariant.1 c.loop-i-test.true (sym c.holds.ensures ∙ c.if-holds.true)

pub loop-i-preserved : goal.loop-i-preserved
loop-i-preserved g c =
    (omega arith, last_miss (g.T.RowTest.passes c.args.test c.args.rows.now c.args.p) _ _ c.loop-i.invariant.1 c.loop-i-test.true (sym c.holds.ensures ∙ c.if-holds.false))

pub returns : goal.returns
returns g c = last_end (g.T.RowTest.passes c.args.test c.args.rows.now c.args.p) _ _ c.loop-i.invariant.1 c.loop-i-test.false
