-- The arms are the characters of `stays_run` that are no digits; else digits decide.
use mathlib.Core.Logic.{inl, inr, ⊎_elim}
use borrow.Author.Tests.{ne_eqb}
use Rattle.items.specs.Classes.{stays_run}
use Rattle.steps.proofs.words.stays_run.Goals as goal

pub returns-in-43 : goal.returns-in-43
unfolding stays_run
returns-in-43 c = ⊎_elim (λ h. rw h) (⊎_elim (λ h. rw h) (λ h. rw h)) c.in-43.is

pub returns-in-46 : goal.returns-in-46
unfolding stays_run
returns-in-46 c = ⊎_elim (λ h. rw h) (λ h. rw h) c.in-46.is

pub returns-in-97 : goal.returns-in-97
unfolding stays_run
returns-in-97 c = ⊎_elim (λ h. rw h) (λ h. rw h) c.in-97.is

pub returns-in-98 : goal.returns-in-98
unfolding stays_run
returns-in-98 c = ⊎_elim (λ h. rw h) (λ h. rw h) c.in-98.is

pub returns-in-99 : goal.returns-in-99
unfolding stays_run
returns-in-99 c = ⊎_elim (λ h. rw h) (λ h. rw h) c.in-99.is

pub returns-in-100 : goal.returns-in-100
unfolding stays_run
returns-in-100 c = ⊎_elim (λ h. rw h) (λ h. rw h) c.in-100.is

pub returns-in-101 : goal.returns-in-101
unfolding stays_run
returns-in-101 c = ⊎_elim (λ h. rw h) (λ h. rw h) c.in-101.is

pub returns-in-102 : goal.returns-in-102
unfolding stays_run
returns-in-102 c = ⊎_elim (λ h. rw h) (λ h. rw h) c.in-102.is

pub returns-in-105 : goal.returns-in-105
unfolding stays_run
returns-in-105 c = ⊎_elim (λ h. rw h) (λ h. rw h) c.in-105.is

pub returns-in_default : goal.returns-in_default
unfolding stays_run
returns-in_default c = simp (
  ne_eqb _ _ (λ h. c.in_default.in_default-own.rest.0.0.0.0.0.0.0.0.1 (inl h)),
  ne_eqb _ _ (λ h. c.in_default.in_default-own.rest.0.0.0.0.0.0.0.0.1 (inr (inl h))),
  ne_eqb _ _ (λ h. c.in_default.in_default-own.rest.0.0.0.0.0.0.0.0.1 (inr (inr h))),
  ne_eqb _ _ (λ h. c.in_default.in_default-own.rest.0.0.0.0.0.0.0.1 (inl h)),
  ne_eqb _ _ (λ h. c.in_default.in_default-own.rest.0.0.0.0.0.0.0.1 (inr h)),
  ne_eqb _ _ (λ h. c.in_default.in_default-own.rest.0.0.0.0.0.0.1 (inl h)),
  ne_eqb _ _ (λ h. c.in_default.in_default-own.rest.0.0.0.0.0.0.1 (inr h)),
  ne_eqb _ _ (λ h. c.in_default.in_default-own.rest.0.0.0.0.0.1 (inl h)),
  ne_eqb _ _ (λ h. c.in_default.in_default-own.rest.0.0.0.0.0.1 (inr h)),
  ne_eqb _ _ (λ h. c.in_default.in_default-own.rest.0.0.0.0.1 (inl h)),
  ne_eqb _ _ (λ h. c.in_default.in_default-own.rest.0.0.0.0.1 (inr h)),
  ne_eqb _ _ (λ h. c.in_default.in_default-own.rest.0.0.0.1 (inl h)),
  ne_eqb _ _ (λ h. c.in_default.in_default-own.rest.0.0.0.1 (inr h)),
  ne_eqb _ _ (λ h. c.in_default.in_default-own.rest.0.0.1 (inl h)),
  ne_eqb _ _ (λ h. c.in_default.in_default-own.rest.0.0.1 (inr h)),
  ne_eqb _ _ (λ h. c.in_default.in_default-own.rest.0.1 (inl h)),
  ne_eqb _ _ (λ h. c.in_default.in_default-own.rest.0.1 (inr h)),
  ne_eqb _ _ (λ h. c.in_default.in_default-own.rest.1 (inl h)),
  ne_eqb _ _ (λ h. c.in_default.in_default-own.rest.1 (inr h)),
  c.is_digit.ensures,
)
