-- The loop keeps that the first of them is the first from row p on.
use mathlib.Core.Path.{sym, ◌∙◌}
use native.Mathlib.Omega.{arith}
use Rattle.findings.specs.Slips.{is_swallower}
use Rattle.findings.proofs.Searches.{first_start, first_end, first_hit, first_miss}
use Rattle.findings.proofs.swallowing.first_swallower.Goals as goal

pub loop-p-init : goal.loop-p-init
loop-p-init c = (omega arith, first_start _ _)

pub returns-then-is_swallower : goal.returns-then-is_swallower
returns-then-is_swallower c =
    let args = c.args in
    let loop = c.loop-p in
    first_hit (is_swallower args.source.now args.rows.now) _ _ loop.invariant.1 c.loop-p-test.true (sym c.is_swallower.ensures ∙ c.if-is_swallower.true)

pub loop-p-preserved : goal.loop-p-preserved
loop-p-preserved c =
    let args = c.args in
    let loop = c.loop-p in
    (omega arith, first_miss (is_swallower args.source.now args.rows.now) _ _ loop.invariant.1 c.loop-p-test.true (sym c.is_swallower.ensures ∙ c.if-is_swallower.false))

pub returns : goal.returns
returns c =
    let args = c.args in
    first_end (is_swallower args.source.now args.rows.now) _ _ c.loop-p.invariant.1 c.loop-p-test.false c.loop-p.invariant.0
