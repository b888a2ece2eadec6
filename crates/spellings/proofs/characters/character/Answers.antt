-- `character` asks for a name first, as the definition does.
use mathlib.Core.Path.{sym, ◌∙◌}
use borrow.Author.Tests.{eq-eqb, ne_eqb}
use Rattle.items.specs.Meaning.{character_of}
use Rattle.spellings.proofs.characters.character.Goals as goal

pub returns-then-code-eq-UNNAMED : goal.returns-then-code-eq-UNNAMED
unfolding character_of
returns-then-code-eq-UNNAMED c = c.spelled_out.ensures ∙ simp (eq-eqb _ _ (sym c.name_code-code.ensures ∙ c.if-code-eq-UNNAMED.true))

pub returns : goal.returns
unfolding character_of
returns c = simp (ne_eqb _ _ (λ h. c.if-code-eq-UNNAMED.false (c.name_code-code.ensures ∙ h)), c.name_code-code.ensures)
