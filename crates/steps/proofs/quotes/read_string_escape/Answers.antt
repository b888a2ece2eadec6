-- The arms are the rows of `after_backslash`. After `\x` the digits start where the item with the x ends.
use mathlib.Core.Logic.{inl, inr, ⊎_elim}
use native.Mathlib.Omega.{arith}
use borrow.Author.Tests.{ne_eqb}
use Rattle.items.specs.Classes.{after_backslash}
use Rattle.steps.proofs.Characters.{with_length}
use Rattle.steps.proofs.quotes.read_string_escape.Goals as goal

pub overflow_add-result : goal.overflow_add-result
overflow_add-result c = omega (arith, c.char_width.ensures)

pub overflow_add-result-in_default : goal.overflow_add-result-in_default
overflow_add-result-in_default c = omega (arith, c.char_width-in_default.ensures)

pub returns-in-34 : goal.returns-in-34
unfolding after_backslash
returns-in-34 c = ⊎_elim (λ h. rw h) (⊎_elim (λ h. rw h) (λ h. rw h)) c.in-34.is

pub returns-in-97 : goal.returns-in-97
unfolding after_backslash
returns-in-97 c = ⊎_elim (λ h. rw h) (⊎_elim (λ h. rw h) (⊎_elim (λ h. rw h) (λ h. rw h))) c.in-97.is

pub returns-in-98 : goal.returns-in-98
unfolding after_backslash
returns-in-98 c = ⊎_elim (λ h. rw h) (λ h. rw h) c.in-98.is

pub returns-in-120 : goal.returns-in-120
unfolding after_backslash
returns-in-120 c = rw (with_length c.args.raw.now c.args.c _ c.char_width.ensures) (rw c.in-120.is)

pub returns-in-117 : goal.returns-in-117
unfolding after_backslash
returns-in-117 c = rw c.in-117.is

pub returns-in-32 : goal.returns-in-32
unfolding after_backslash
returns-in-32 c = ⊎_elim (λ h. rw h) (λ h. rw h) c.in-32.is

pub returns-in-10 : goal.returns-in-10
unfolding after_backslash
returns-in-10 c = rw c.in-10.is

pub returns-in_default : goal.returns-in_default
unfolding after_backslash
returns-in_default c = simp (
  ne_eqb _ _ (λ h. c.in_default.in_default-own.rest.0.0.0.0.0.0.1 (inl h)),
  ne_eqb _ _ (λ h. c.in_default.in_default-own.rest.0.0.0.0.0.0.1 (inr (inl h))),
  ne_eqb _ _ (λ h. c.in_default.in_default-own.rest.0.0.0.0.0.0.1 (inr (inr h))),
  ne_eqb _ _ (λ h. c.in_default.in_default-own.rest.0.0.0.0.0.1 (inl h)),
  ne_eqb _ _ (λ h. c.in_default.in_default-own.rest.0.0.0.0.0.1 (inr (inl h))),
  ne_eqb _ _ (λ h. c.in_default.in_default-own.rest.0.0.0.0.0.1 (inr (inr (inl h)))),
  ne_eqb _ _ (λ h. c.in_default.in_default-own.rest.0.0.0.0.0.1 (inr (inr (inr h)))),
  ne_eqb _ _ (λ h. c.in_default.in_default-own.rest.0.0.0.0.1 (inl h)),
  ne_eqb _ _ (λ h. c.in_default.in_default-own.rest.0.0.0.0.1 (inr h)),
  ne_eqb _ _ c.in_default.in_default-own.rest.0.0.0.1,
  ne_eqb _ _ c.in_default.in_default-own.rest.0.0.1,
  ne_eqb _ _ (λ h. c.in_default.in_default-own.rest.0.1 (inl h)),
  ne_eqb _ _ (λ h. c.in_default.in_default-own.rest.0.1 (inr h)),
  ne_eqb _ _ c.in_default.in_default-own.rest.1,
  c.char_width-in_default.ensures,
)
