-- `row` is right by what `equal` says of the two texts.
use mathlib.Core.Path.{sym, ◌∙◌}
use Rattle.spellings.proofs.words.row.Goals as goal

pub returns-then-equal : goal.returns-then-equal
returns-then-equal c = simp (sym c.equal.ensures ∙ c.if-equal.true)

pub returns : goal.returns
returns c = simp (sym c.equal.ensures ∙ c.if-equal.false)
