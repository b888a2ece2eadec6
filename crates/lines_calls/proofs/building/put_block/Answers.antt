-- A block without a newline byte has no start; any other goes byte by byte.
use Rattle.lines_calls.proofs.Stored.{storing_none}
use Rattle.lines_calls.proofs.building.put_block.Goals as goal

pub returns : goal.returns
returns c = let a = c.args in storing_none a.text.now a.index.now a.at a.n (c.has_newline.ensures c.if-has_newline.false)
