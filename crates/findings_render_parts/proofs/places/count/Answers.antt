-- The invariant: the count is that of the bytes passed.
use mathlib.Core.Path.{◌≡◌, refl, sym, ◌∙◌}
use native.Mathlib.Omega.{arith}
use Rattle.findings_render_parts.specs.Spots.{count_in}
use Rattle.findings_render_parts.proofs.Spotted.{count_hit, count_miss}
use Rattle.findings_render_parts.proofs.places.count.Goals as goal
use Rattle.findings_render_parts.proofs.places.count.Goals.{then-between, else-between}

pub loop-i-init : goal.loop-i-init
unfolding count_in
loop-i-init c = (refl, omega arith)

pub loop-i-preserved : goal.loop-i-preserved
loop-i-preserved c = elim c.if-between.branch [
  | then-between w ↦
      (omega (arith, count_hit c.args.low c.args.high c.args.s.now c.args.from c.loop-i.i (sym c.between.ensures ∙ w.if-between.true)), omega arith)
  | else-between w ↦
      (omega (arith, count_miss c.args.low c.args.high c.args.s.now c.args.from c.loop-i.i (sym c.between.ensures ∙ w.if-between.false)), omega arith)
]

pub returns : goal.returns
returns c =
    (let e : c.loop-i.i ≡ c.args.n = omega arith in rw e at c.loop-i.invariant.0, omega arith)
