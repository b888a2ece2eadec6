-- By how it is shown.
use Rattle.findings_render_parts.specs.Shown.{columns}
use Rattle.findings_render_parts.proofs.characters.columns_of.Goals as goal

pub returns-in-NoColumn : goal.returns-in-NoColumn
unfolding columns
returns-in-NoColumn c = rw c.in-NoColumn.is

pub returns-in-OneColumn : goal.returns-in-OneColumn
unfolding columns
returns-in-OneColumn c = rw c.in-OneColumn.is

pub returns-in-TwoColumns : goal.returns-in-TwoColumns
unfolding columns
returns-in-TwoColumns c = rw c.in-TwoColumns.is

pub returns-in-Tab : goal.returns-in-Tab
unfolding columns
returns-in-Tab c = rw c.in-Tab.is

pub returns-in-ByNumber : goal.returns-in-ByNumber
unfolding columns
returns-in-ByNumber c = rw (c.in-ByNumber.is, c.hex_count.ensures.0)

pub returns-in-AsByte : goal.returns-in-AsByte
unfolding columns
returns-in-AsByte c = rw c.in-AsByte.is
