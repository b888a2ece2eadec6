-- The count decides first; only then is the bound at the count one of the half's own.
use borrow.Author.Tests.{lt-leb}
use mathlib.Core.Path.{◌∙◌}
use Rattle.names.proofs.Laws.{half_in, half_over}
use Rattle.names.proofs.layout.half_in_bounds.Goals as goal

pub returns-then-n-le-HALF_NAMES : goal.returns-then-n-le-HALF_NAMES
returns-then-n-le-HALF_NAMES c = half_in _ _ c.word-n.ensures c.if-n-le-HALF_NAMES.true c.word.ensures

pub returns-else-n-le-HALF_NAMES : goal.returns-else-n-le-HALF_NAMES
returns-else-n-le-HALF_NAMES c = lt-leb _ _ c.if-n-le-HALF_NAMES.false ∙ half_over _ _ c.word-n.ensures c.if-n-le-HALF_NAMES.false
