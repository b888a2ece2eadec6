-- The arms are the characters of `ends_hash`; else blanks decide.
use mathlib.Core.Logic.{inl, inr, ⊎_elim}
use borrow.Author.Tests.{ne_eqb}
use Rattle.items.specs.Classes.{ends_hash}
use Rattle.steps.proofs.hash.ends_hash.Goals as goal

pub returns-in-40 : goal.returns-in-40
unfolding ends_hash
returns-in-40 c = ⊎_elim (λ h. rw h) (λ h. rw h) c.in-40.is

pub returns-in-41 : goal.returns-in-41
unfolding ends_hash
returns-in-41 c = ⊎_elim (λ h. rw h) (λ h. rw h) c.in-41.is

pub returns-in_default : goal.returns-in_default
unfolding ends_hash
returns-in_default c = simp (
  ne_eqb _ _ (λ h. c.in_default.in_default-own.rest.0.1 (inl h)),
  ne_eqb _ _ (λ h. c.in_default.in_default-own.rest.0.1 (inr h)),
  ne_eqb _ _ (λ h. c.in_default.in_default-own.rest.1 (inl h)),
  ne_eqb _ _ (λ h. c.in_default.in_default-own.rest.1 (inr h)),
  c.is_blank.ensures,
)
