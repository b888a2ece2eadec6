-- Where a dot stands its digits are those from the next place on, which is one of the text; else nothing follows.
use Rattle.laws.specs.Quoted.{code}
use Rattle.laws.proofs.Compared.{starts_in}
use Rattle.numbers.proofs.Outlines.{fraction_end_dot, fraction_end_none}
use mathlib.Core.Path.{sym, ◌∙◌}
use native.Mathlib.Omega.{arith}
use Rattle.numbers.proofs.brief.fraction_end.Goals as goal

pub overflow_add-from : goal.overflow_add-from
overflow_add-from c =
    omega (arith, starts_in (code ".") c.args.t.now c.args.from (sym c.if-starts_at.true ∙ c.starts_at.ensures))

pub returns-then-starts_at : goal.returns-then-starts_at
returns-then-starts_at c =
    c.decimal_end.ensures ∙ sym (fraction_end_dot _ _ (sym c.if-starts_at.true ∙ c.starts_at.ensures))

pub returns : goal.returns
returns c = sym (fraction_end_none _ _ (sym c.if-starts_at.false ∙ c.starts_at.ensures))
