-- `name_row` is right by the table's rule.
use Rattle.spellings.proofs.Table.{row_at}
use Rattle.spellings.proofs.names.name_row.Goals as goal

pub returns : goal.returns
returns c = row_at c.args.k c.requires
