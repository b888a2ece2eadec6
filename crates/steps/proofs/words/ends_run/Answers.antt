-- The arms are the characters of `ends_run`, two of them as the mode says; else blanks decide.
use mathlib.Core.Logic.{inl, inr, ⊎_elim}
use borrow.Author.Tests.{ne_eqb}
use Rattle.items.specs.Classes.{ends_run}
use Rattle.steps.proofs.words.ends_run.Goals as goal

pub returns-in-40 : goal.returns-in-40
unfolding ends_run
returns-in-40 c = ⊎_elim (λ h. rw h) (λ h. rw h) c.in-40.is

pub returns-in-41 : goal.returns-in-41
unfolding ends_run
returns-in-41 c = ⊎_elim (λ h. rw h) (λ h. rw h) c.in-41.is

pub returns-in-59 : goal.returns-in-59
unfolding ends_run
returns-in-59 c = ⊎_elim (λ h. rw h) (λ h. rw h) c.in-59.is

pub returns-in_default : goal.returns-in_default
unfolding ends_run
returns-in_default c = simp (
  ne_eqb _ _ (λ h. c.in_default.in_default-own.rest.0.0.1 (inl h)),
  ne_eqb _ _ (λ h. c.in_default.in_default-own.rest.0.0.1 (inr h)),
  ne_eqb _ _ (λ h. c.in_default.in_default-own.rest.0.1 (inl h)),
  ne_eqb _ _ (λ h. c.in_default.in_default-own.rest.0.1 (inr h)),
  ne_eqb _ _ (λ h. c.in_default.in_default-own.rest.1 (inl h)),
  ne_eqb _ _ (λ h. c.in_default.in_default-own.rest.1 (inr h)),
  c.is_blank.ensures,
)
