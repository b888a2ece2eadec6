-- Past the end nothing stands; in the text the byte there decides.
use borrow.Author.Tests.{le-ltb}
use mathlib.Core.Path.{◌∙◌}
use Rattle.laws.proofs.Compared.{starts_past, starts_here}
use Rattle.byte_runs.proofs.starts_at.Goals as goal

pub returns-then-from-t : goal.returns-then-from-t
returns-then-from-t c = starts_here _ _ _ c.if-from-t.true

pub returns-else-from-t : goal.returns-else-from-t
returns-else-from-t c = le-ltb _ _ c.if-from-t.false ∙ starts_past _ _ _ c.if-from-t.false
