-- The invariant: what is sought from this place on is what is sought from the start on.
use mathlib.Core.Path.{◌≡◌, sym, ◌∙◌}
use native.Mathlib.Omega.{arith}
use lib.ListN.{length}
use Rattle.findings_render_messages.proofs.Worded.{behind_here, behind_on, behind_end, key_fits}
use Rattle.findings_render_messages.proofs.text_start.Goals as goal

pub overflow_add-result : goal.overflow_add-result
overflow_add-result c =
    omega (
      arith,
      key_fits c.args.key.now c.args.t.now c.loop-i.i c.loop-i.start c.loop-i-test.true
          (sym c.begins_at.ensures ∙ c.if-begins_at.true),
    )

pub returns-then-begins_at : goal.returns-then-begins_at
returns-then-begins_at c = (
  behind_here c.args.key.now c.args.t.now c.loop-i.i c.loop-i.start c.loop-i-test.true
      (sym c.begins_at.ensures ∙ c.if-begins_at.true) ∙ c.loop-i.invariant,
  key_fits c.args.key.now c.args.t.now c.loop-i.i c.loop-i.start c.loop-i-test.true (sym c.begins_at.ensures ∙ c.if-begins_at.true),
)

pub loop-i-preserved : goal.loop-i-preserved
loop-i-preserved c =
    behind_on c.args.key.now c.args.t.now c.loop-i.i c.loop-i.start c.loop-i-test.true
    (sym c.begins_at.ensures ∙ c.if-begins_at.false) ∙ c.loop-i.invariant

pub returns : goal.returns
returns c =
    let e : c.loop-i.i ≡ length c.args.t.now = omega arith in
    (rw (← e) (behind_end c.args.key.now c.args.t.now c.loop-i.i c.loop-i.start c.loop-i-test.false ∙ c.loop-i.invariant), omega arith)
