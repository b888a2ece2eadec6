-- A byte is stored where there is room, and the place moves on unless it is the last.
use mathlib.Core.Path.{sym, ◌∙◌}
use native.Mathlib.Omega.{arith}
use lib.Seq.{set_out}
use Rattle.findings_render_parts.proofs.OneByOne.{saturated}
use Rattle.findings_render_parts.proofs.laying.put_raw.Goals as goal
use Rattle.findings_render_parts.proofs.laying.put_raw.Goals.{then-at-out, else-at-out}

pub returns : goal.returns
returns c = (
  c.saturating_add.ensures ∙ saturated c.args.at (omega arith),
  elim c.if-at-out.branch [ then-at-out w ↦ w.out-is | else-at-out w ↦ w.out-is ∙ sym (set_out c.args.out.now c.args.at c.args.b w.if-at-out.false) ],
)
