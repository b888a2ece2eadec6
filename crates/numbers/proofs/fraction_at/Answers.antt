-- A dot stands in the text, so that the place past it is one; from there on the digits are the definition's.
use Rattle.laws.specs.Quoted.{code}
use Rattle.laws.proofs.Compared.{starts_in}
use Rattle.numbers.proofs.PlainPlaces.{fraction_no, fraction_short, fraction_run}
use mathlib.Core.Path.{sym, ◌∙◌}
use native.Mathlib.Omega.{arith}
use Rattle.numbers.proofs.fraction_at.Goals as goal

pub overflow_add-start : goal.overflow_add-start
overflow_add-start c = omega (arith, starts_in (code ".") c.args.t.now c.args.from (sym c.if-starts_at.true ∙ c.starts_at.ensures))

pub returns-then-t-start : goal.returns-then-t-start
returns-then-t-start c = fraction_short _ _ (sym c.if-starts_at.true ∙ c.starts_at.ensures) c.if-t-start.true

pub returns-then-starts_at : goal.returns-then-starts_at
returns-then-starts_at c = fraction_run _ _ (sym c.if-starts_at.true ∙ c.starts_at.ensures) _ c.if-t-start.false c.decimal_end.ensures

pub returns : goal.returns
returns c = fraction_no c.args.t.now c.args.from (sym c.if-starts_at.false ∙ c.starts_at.ensures)
