-- The digits that the part starts with end at the dot, if there is one.
use Rattle.numbers.proofs.Decimals.{decimal_dot, decimal_no}
use Rattle.laws.specs.Quoted.{code}
use Rattle.laws.proofs.Compared.{starts_in}
use mathlib.Core.Path.{sym, ◌∙◌}
use native.Mathlib.Omega.{arith}
use Rattle.numbers.proofs.reals.decimal_at.Goals as goal

pub overflow_add-end : goal.overflow_add-end
overflow_add-end c =
    let h = starts_in (code ".") c.args.t.now c.decimal_end-end.result
    (sym c.if-starts_at.true ∙ c.starts_at.ensures) in
    omega arith

pub returns-then-starts_at : goal.returns-then-starts_at
returns-then-starts_at c =
    decimal_dot _ _ _ _ c.decimal_end-end.ensures _ (sym c.if-starts_at.true ∙ c.starts_at.ensures)
    c.dotted.ensures

pub returns-else-starts_at : goal.returns-else-starts_at
returns-else-starts_at c =
    decimal_no _ _ _ _ c.decimal_end-end.ensures _ _
    (sym c.if-starts_at.false ∙ c.starts_at.ensures) c.suffix_at.ensures c.undotted.ensures
