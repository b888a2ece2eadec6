-- The table's rule, computed.
use Rattle.findings_render_parts.proofs.Tables.{sixteens_at}
use Rattle.findings_render_parts.proofs.numbers.sixteen_to.Goals as goal

pub returns : goal.returns
returns c = sixteens_at c.args.w c.requires
