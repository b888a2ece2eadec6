-- Past the end there is none.
use mathlib.Core.Path.{◌∙◌}
use native.Mathlib.Omega.{arith}
use Rattle.findings_render.proofs.word.Goals as goal

pub returns : goal.returns
returns c = c.unwrap_or.ensures ∙ rw c.copied.ensures (c.get.ensures.lookup.4 (omega arith) 0)
