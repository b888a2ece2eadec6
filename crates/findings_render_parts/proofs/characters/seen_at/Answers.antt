-- By what stands there.
use mathlib.Core.Path.{sym, ◌∙◌}
use native.Mathlib.Omega.{arith}
use Rattle.chars.proofs.Sequences.{further}
use Rattle.findings_render_parts.proofs.Walks.{seen_good, seen_bad}
use Rattle.findings_render_parts.proofs.characters.seen_at.Goals as goal

pub overflow_sub-result : goal.overflow_sub-result
overflow_sub-result c =
    omega (arith, further c.args.t.now c.args.at _ _ (sym c.in-Char.is ∙ c.decode_at.ensures))

pub returns-in-Char : goal.returns-in-Char
returns-in-Char c =
    seen_good c.args.t.now c.args.at c.decode_at.ensures c.requires _ _ c.in-Char.is c.kind_of.ensures

pub returns-in_default : goal.returns-in_default
returns-in_default c =
    seen_bad c.args.t.now c.args.at c.decode_at.ensures c.requires c.in_default.not-Char _ c.seen_byte.ensures
