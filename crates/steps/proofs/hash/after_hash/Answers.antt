-- The arms are the rows of `after_hash`; else the word goes on.
use mathlib.Core.Logic.{inl, inr, ⊎_elim}
use borrow.Author.Tests.{ne_eqb}
use Rattle.items.specs.Classes.{after_hash}
use Rattle.steps.proofs.hash.after_hash.Goals as goal

pub returns-in-120 : goal.returns-in-120
unfolding after_hash
returns-in-120 c = ⊎_elim (λ h. rw h) (⊎_elim (λ h. rw h) (⊎_elim (λ h. rw h) (λ h. rw h))) c.in-120.is

pub returns-in-88 : goal.returns-in-88
unfolding after_hash
returns-in-88 c = ⊎_elim (λ h. rw h) (⊎_elim (λ h. rw h) (⊎_elim (λ h. rw h) (λ h. rw h))) c.in-88.is

pub returns-in-124 : goal.returns-in-124
unfolding after_hash
returns-in-124 c = rw c.in-124.is

pub returns-in-59 : goal.returns-in-59
unfolding after_hash
returns-in-59 c = rw c.in-59.is

pub returns-in-35 : goal.returns-in-35
unfolding after_hash
returns-in-35 c = rw c.in-35.is

pub returns-in-60 : goal.returns-in-60
unfolding after_hash
returns-in-60 c = rw c.in-60.is

pub returns-in_default : goal.returns-in_default
unfolding after_hash
returns-in_default c = simp (
  ne_eqb _ _ (λ h. c.in_default.in_default-own.rest.0.0.0.0.0.1 (inl h)),
  ne_eqb _ _ (λ h. c.in_default.in_default-own.rest.0.0.0.0.0.1 (inr (inl h))),
  ne_eqb _ _ (λ h. c.in_default.in_default-own.rest.0.0.0.0.0.1 (inr (inr (inl h)))),
  ne_eqb _ _ (λ h. c.in_default.in_default-own.rest.0.0.0.0.0.1 (inr (inr (inr h)))),
  ne_eqb _ _ (λ h. c.in_default.in_default-own.rest.0.0.0.0.1 (inl h)),
  ne_eqb _ _ (λ h. c.in_default.in_default-own.rest.0.0.0.0.1 (inr (inl h))),
  ne_eqb _ _ (λ h. c.in_default.in_default-own.rest.0.0.0.0.1 (inr (inr (inl h)))),
  ne_eqb _ _ (λ h. c.in_default.in_default-own.rest.0.0.0.0.1 (inr (inr (inr h)))),
  ne_eqb _ _ c.in_default.in_default-own.rest.0.0.0.1,
  ne_eqb _ _ c.in_default.in_default-own.rest.0.0.1,
  ne_eqb _ _ c.in_default.in_default-own.rest.0.1,
  ne_eqb _ _ c.in_default.in_default-own.rest.1,
  c.read_hash_value.ensures,
)
