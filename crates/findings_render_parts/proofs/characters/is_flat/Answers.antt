-- The invariant: the characters passed take no column.
use mathlib.Core.Path.{refl, sym, ap, ◌∙◌}
use native.Mathlib.Omega.{arith}
use Rattle.findings_render_parts.specs.Shown.{is_nil, under_one}
use Rattle.findings_render_parts.proofs.Walks.{walked_on, walked_end}
use Rattle.findings_render_parts.proofs.Spotted.{flat_on, flat_not}
use Rattle.findings_render_parts.proofs.characters.is_flat.Goals as goal

pub loop-i-init : goal.loop-i-init
loop-i-init c = (omega arith, refl)

pub seen_at-u-requires : goal.seen_at-u-requires
seen_at-u-requires c = c.loop-i-test.true

pub returns-then-columns_of-gt0 : goal.returns-then-columns_of-gt0
returns-then-columns_of-gt0 c =
    sym (sym c.loop-i.invariant.1 ∙ ap is_nil (walked_on (under_one 94) c.args.t.now c.loop-i.i c.loop-i-test.true)
    ∙ flat_not _ _ _ (rw (c.columns_of.ensures, c.seen_at-u.ensures.0) at c.if-columns_of-gt0.true))

pub loop-i-preserved : goal.loop-i-preserved
loop-i-preserved c = (
  omega arith,
  rw c.seen_at-u.ensures.0
      (sym (flat_on _ _ _ (rw (c.columns_of.ensures, c.seen_at-u.ensures.0) at c.if-columns_of-gt0.false))
      ∙ sym (ap is_nil (walked_on (under_one 94) c.args.t.now c.loop-i.i c.loop-i-test.true)) ∙ c.loop-i.invariant.1),
)

pub returns : goal.returns
unfolding is_nil
returns c =
    sym (sym c.loop-i.invariant.1 ∙ ap is_nil (walked_end (under_one 94) c.args.t.now c.loop-i.i c.loop-i-test.false))
