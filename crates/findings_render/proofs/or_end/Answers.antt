-- By the lesser of the two.
use mathlib.Core.Path.{◌∙◌}
use native.Mathlib.Omega.{arith}
use Rattle.findings_render.proofs.Least.{cut_is}
use Rattle.findings_render.proofs.or_end.Goals as goal

pub returns : goal.returns
returns c = (c.min.ensures ∙ cut_is c.args.s.now c.args.place, (omega arith, omega arith))
