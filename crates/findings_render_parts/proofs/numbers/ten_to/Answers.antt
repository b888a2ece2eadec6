-- The table's rule, computed.
use Rattle.findings_render_parts.proofs.Tables.{tens_at}
use Rattle.findings_render_parts.proofs.numbers.ten_to.Goals as goal

pub returns : goal.returns
returns c = tens_at c.args.w c.requires
