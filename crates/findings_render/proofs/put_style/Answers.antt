-- By the style.
use native.Mathlib.Omega.{arith}
use borrow.Author.Tests.{ne_eqb}
use Rattle.findings_render_parts.proofs.OneByOne.{nothing}
use Rattle.findings_render.proofs.put_style.Goals as goal

pub returns-in-0 : goal.returns-in-0
returns-in-0 c = rw c.in-0.is c.put_lines.ensures

pub returns-in-1 : goal.returns-in-1
returns-in-1 c = rw c.in-1.is c.put_lines-in-1.ensures

pub returns-in-2 : goal.returns-in-2
returns-in-2 c = rw c.in-2.is c.put_json.ensures

pub returns-in_default : goal.returns-in_default
returns-in_default c =
    simp (
      ne_eqb c.args.style 0 (λ h. omega arith),
      ne_eqb c.args.style 1 (λ h. omega arith),
      ne_eqb c.args.style 2 (λ h. omega arith),
    ) nothing
