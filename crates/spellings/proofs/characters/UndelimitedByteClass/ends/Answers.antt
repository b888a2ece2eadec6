-- The arm's bytes are the definition's four.
use mathlib.Core.Logic.{inl, inr, ⊎_elim}
use borrow.Author.Tests.{ne_eqb}
use Rattle.items.specs.Meaning.{is_delimiter}
use Rattle.spellings.proofs.characters.UndelimitedByteClass.ends.Goals as goal

pub returns-in-59 : goal.returns-in-59
unfolding is_delimiter
returns-in-59 c = ⊎_elim (λ h. rw h) (⊎_elim (λ h. rw h) (⊎_elim (λ h. rw h) (λ h. rw h))) c.in-59.is

pub returns-in_default : goal.returns-in_default
unfolding is_delimiter
returns-in_default c = simp (
  ne_eqb _ _ (λ h. c.in_default.in_default-own.rest.1 (inl h)),
  ne_eqb _ _ (λ h. c.in_default.in_default-own.rest.1 (inr (inl h))),
  ne_eqb _ _ (λ h. c.in_default.in_default-own.rest.1 (inr (inr (inl h)))),
  ne_eqb _ _ (λ h. c.in_default.in_default-own.rest.1 (inr (inr (inr h)))),
)
