-- The arms are the characters of `breaks_word`; else blanks decide.
use mathlib.Core.Logic.{inl, inr, ⊎_elim}
use borrow.Author.Tests.{ne_eqb}
use Rattle.items.specs.Classes.{breaks_word}
use Rattle.steps.proofs.words.breaks_word.Goals as goal

pub returns-in-40 : goal.returns-in-40
unfolding breaks_word
returns-in-40 c = ⊎_elim (λ h. rw h) (⊎_elim (λ h. rw h) (λ h. rw h)) c.in-40.is

pub returns-in-41 : goal.returns-in-41
unfolding breaks_word
returns-in-41 c = ⊎_elim (λ h. rw h) (⊎_elim (λ h. rw h) (λ h. rw h)) c.in-41.is

pub returns-in-39 : goal.returns-in-39
unfolding breaks_word
returns-in-39 c = ⊎_elim (λ h. rw h) (⊎_elim (λ h. rw h) (⊎_elim (λ h. rw h) (⊎_elim (λ h. rw h) (λ h. rw h)))) c.in-39.is

pub returns-in_default : goal.returns-in_default
unfolding breaks_word
returns-in_default c = simp (
  ne_eqb _ _ (λ h. c.in_default.in_default-own.rest.0.0.1 (inl h)),
  ne_eqb _ _ (λ h. c.in_default.in_default-own.rest.0.0.1 (inr (inl h))),
  ne_eqb _ _ (λ h. c.in_default.in_default-own.rest.0.0.1 (inr (inr h))),
  ne_eqb _ _ (λ h. c.in_default.in_default-own.rest.0.1 (inl h)),
  ne_eqb _ _ (λ h. c.in_default.in_default-own.rest.0.1 (inr (inl h))),
  ne_eqb _ _ (λ h. c.in_default.in_default-own.rest.0.1 (inr (inr h))),
  ne_eqb _ _ (λ h. c.in_default.in_default-own.rest.1 (inl h)),
  ne_eqb _ _ (λ h. c.in_default.in_default-own.rest.1 (inr (inl h))),
  ne_eqb _ _ (λ h. c.in_default.in_default-own.rest.1 (inr (inr (inl h)))),
  ne_eqb _ _ (λ h. c.in_default.in_default-own.rest.1 (inr (inr (inr (inl h))))),
  ne_eqb _ _ (λ h. c.in_default.in_default-own.rest.1 (inr (inr (inr (inr h))))),
  c.is_blank.ensures,
)
