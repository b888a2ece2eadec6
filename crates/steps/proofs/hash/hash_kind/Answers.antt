-- The three tests one after the other, as `hash_kind` has them.
use Rattle.items.specs.Readers.{hash_kind}
use Rattle.steps.proofs.hash.hash_kind.Goals as goal

pub returns : goal.returns
unfolding hash_kind
returns c = simp (
  c.or_else-2.ensures,
  c.or_else.ensures,
  c.form_kind.ensures,
  c.quote_kind.ensures,
  c.bool_kind.ensures,
)
