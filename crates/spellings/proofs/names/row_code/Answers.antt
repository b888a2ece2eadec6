-- `row_code` is right by the table's rule.
use Rattle.spellings.proofs.Table.{code_at}
use Rattle.spellings.proofs.names.row_code.Goals as goal

pub returns : goal.returns
returns c = code_at c.args.k c.requires
