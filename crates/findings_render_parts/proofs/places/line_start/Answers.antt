-- The invariant: no newline stands between this place and the first.
use Prim.Native.Nat.{◌+◌, ◌-◌}
use mathlib.Core.Path.{◌≡◌, refl, sym, ◌∙◌}
use native.Mathlib.Omega.{arith}
use Rattle.findings_render_parts.proofs.Spotted.{start_here, start_back, start_none}
use Rattle.findings_render_parts.proofs.places.line_start.Goals as goal

pub loop-i-init : goal.loop-i-init
loop-i-init c = (omega arith, refl)

pub returns-then-s-i-eq10 : goal.returns-then-s-i-eq10
returns-then-s-i-eq10 c =
    let e : c.loop-i.i - 1 + 1 ≡ c.loop-i.i = omega arith in
    (e ∙ sym (c.loop-i.invariant.1 ∙ start_here c.args.s.now c.loop-i.i c.loop-i-test.true c.if-s-i-eq10.true), omega arith)

pub loop-i-preserved : goal.loop-i-preserved
loop-i-preserved c =
    (omega arith, c.loop-i.invariant.1 ∙ start_back c.args.s.now c.loop-i.i c.loop-i-test.true c.if-s-i-eq10.false)

pub returns : goal.returns
returns c = (sym (c.loop-i.invariant.1 ∙ start_none c.args.s.now c.loop-i.i c.loop-i-test.false), omega arith)
