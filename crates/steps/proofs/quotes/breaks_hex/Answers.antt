-- The arms are the characters of `stops_hex`; else the delimiter of the quotes decides.
use mathlib.Core.Logic.{inl, inr, ⊎_elim}
use borrow.Author.Tests.{ne_eqb}
use Rattle.items.specs.Classes.{stops_hex}
use Rattle.steps.proofs.quotes.breaks_hex.Goals as goal

pub returns-in-59 : goal.returns-in-59
unfolding stops_hex
returns-in-59 c = ⊎_elim (λ h. rw h) (⊎_elim (λ h. rw h) (λ h. rw h)) c.in-59.is

pub returns-in-40 : goal.returns-in-40
unfolding stops_hex
returns-in-40 c = ⊎_elim (λ h. rw h) (⊎_elim (λ h. rw h) (λ h. rw h)) c.in-40.is

pub returns-in-41 : goal.returns-in-41
unfolding stops_hex
returns-in-41 c = ⊎_elim (λ h. rw h) (⊎_elim (λ h. rw h) (λ h. rw h)) c.in-41.is

pub returns-in_default : goal.returns-in_default
unfolding stops_hex
returns-in_default c = simp (
  ne_eqb _ _ (λ h. c.in_default.in_default-own.rest.0.0.1 (inl h)),
  ne_eqb _ _ (λ h. c.in_default.in_default-own.rest.0.0.1 (inr (inl h))),
  ne_eqb _ _ (λ h. c.in_default.in_default-own.rest.0.0.1 (inr (inr h))),
  ne_eqb _ _ (λ h. c.in_default.in_default-own.rest.0.1 (inl h)),
  ne_eqb _ _ (λ h. c.in_default.in_default-own.rest.0.1 (inr (inl h))),
  ne_eqb _ _ (λ h. c.in_default.in_default-own.rest.0.1 (inr (inr h))),
  ne_eqb _ _ (λ h. c.in_default.in_default-own.rest.1 (inl h)),
  ne_eqb _ _ (λ h. c.in_default.in_default-own.rest.1 (inr (inl h))),
  ne_eqb _ _ (λ h. c.in_default.in_default-own.rest.1 (inr (inr h))),
  c.delim_of.ensures,
)
