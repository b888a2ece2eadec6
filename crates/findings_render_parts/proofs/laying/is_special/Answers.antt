-- The arm's bytes are the definition's three.
use mathlib.Core.Logic.{inl, inr, ⊎_elim}
use borrow.Author.Tests.{ne_eqb}
use Rattle.findings_render_parts.proofs.laying.is_special.Goals as goal

pub returns-in-34 : goal.returns-in-34
returns-in-34 c = ⊎_elim (λ h. rw h) (⊎_elim (λ h. rw h) (λ h. rw h)) c.in-34.is

pub returns-in_default : goal.returns-in_default
returns-in_default c = simp (
  ne_eqb _ _ (λ h. c.in_default.in_default-own.rest.1 (inl h)),
  ne_eqb _ _ (λ h. c.in_default.in_default-own.rest.1 (inr (inl h))),
  ne_eqb _ _ (λ h. c.in_default.in_default-own.rest.1 (inr (inr h))),
)
