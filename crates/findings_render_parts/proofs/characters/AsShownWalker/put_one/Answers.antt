-- By how it is shown.
use mathlib.Core.Path.{◌∙◌}
use native.Mathlib.Nat.{sub-zero}
use Rattle.findings_render_parts.specs.Shown.{shown_one}
use Rattle.findings_render_parts.proofs.OneByOne.{as_laid}
use Rattle.findings_render_parts.proofs.Walks.{shown_else}
use Rattle.findings_render_parts.proofs.characters.AsShownWalker.put_one.Goals as goal

pub returns-in-ByNumber : goal.returns-in-ByNumber
unfolding shown_one
returns-in-ByNumber c = rw c.in-ByNumber.is c.put_by_number.ensures

pub returns-in-AsByte : goal.returns-in-AsByte
unfolding shown_one
returns-in-AsByte c = rw c.in-AsByte.is c.put_as_byte.ensures

pub returns-in_default : goal.returns-in_default
unfolding shown_one
returns-in_default c =
    as_laid ((rw sub-zero at c.part.ensures) ∙ shown_else _ c.args.u c.args.t.now c.in_default.not-ByNumber c.in_default.not-AsByte) c.put.ensures
