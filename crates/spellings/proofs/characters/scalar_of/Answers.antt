-- `scalar_of` goes by the cases of the definition.
use mathlib.Core.Path.{sym, ◌∙◌}
use Rattle.items.specs.Readers.{scalar_of}
use Rattle.spellings.proofs.characters.scalar_of.Goals as goal

pub returns-then-is_scalar : goal.returns-then-is_scalar
unfolding scalar_of
returns-then-is_scalar c = rw c.in-Ok.is (simp (sym c.is_scalar.ensures ∙ c.if-is_scalar.true))

pub returns-else-is_scalar : goal.returns-else-is_scalar
unfolding scalar_of
returns-else-is_scalar c = rw c.in-Ok.is (simp (sym c.is_scalar.ensures ∙ c.if-is_scalar.false))

pub returns-in-Err : goal.returns-in-Err
unfolding scalar_of
returns-in-Err c = rw c.in-Err.is
