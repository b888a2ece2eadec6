-- A store past the end is none.
use mathlib.Core.Path.{sym}
use lib.Seq.{set_out}
use Rattle.lines_calls.proofs.pieces.store.Goals as goal

pub returns-else-i-index : goal.returns-else-i-index
returns-else-i-index c = sym (set_out c.args.index.now c.args.k c.args.v c.if-i-index.false)
