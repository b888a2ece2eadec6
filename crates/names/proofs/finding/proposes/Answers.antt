-- The tag decides first: another tag proposes nothing, and under the name's own the entry decides.
use mathlib.Core.Path.{◌∙◌}
use borrow.Author.Tests.{ne_eqb}
use Rattle.names.proofs.Laws.{proposes_not, proposes_as}
use Rattle.names.proofs.finding.proposes.Goals as goal

pub returns-else-v-tag : goal.returns-else-v-tag
returns-else-v-tag c = ne_eqb _ _ c.if-v-tag.false ∙ proposes_not _ _ _ _ _ c.requires.tag_value c.if-v-tag.false

pub returns-then-v-tag : goal.returns-then-v-tag
returns-then-v-tag c = c.bears.ensures ∙ proposes_as _ _ _ _ _ c.requires.tag_value c.if-v-tag.true
