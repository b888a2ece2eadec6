-- `is_blank` looks through the table from its first row on: what the rows from here on say is what the whole list says.
use mathlib.Core.Path.{refl, sym, ◌∙◌}
use Rattle.chars.specs.Blank.{is_blank}
use Rattle.chars.proofs.Blanks.{listed_here, listed_later, listed_never}
use Rattle.chars.proofs.blank.is_blank.Goals as goal

pub loop-row-init : goal.loop-row-init
unfolding is_blank
loop-row-init c = refl

pub bounds-table-row : goal.bounds-table-row
bounds-table-row c = c.loop-row-test.true

pub returns-then-table-row : goal.returns-then-table-row
returns-then-table-row c = sym (c.loop-row.invariant ∙ listed_here _ c.loop-row.row c.loop-row-test.true c.if-table-row.true)

pub loop-row-preserved : goal.loop-row-preserved
loop-row-preserved c = c.loop-row.invariant ∙ listed_later _ c.loop-row.row c.loop-row-test.true c.if-table-row.false

pub returns : goal.returns
returns c = sym (c.loop-row.invariant ∙ listed_never _ c.loop-row.row c.loop-row-test.false)
