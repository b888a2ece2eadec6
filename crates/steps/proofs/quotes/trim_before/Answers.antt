-- An arm for each class of `in_trim`. The step does not depend on the bytes of the item.
use mathlib.Core.Logic.{inl, inr, ⊎_elim}
use native.Mathlib.Omega.{arith}
use borrow.Author.Tests.{ne_eqb}
use Rattle.items.specs.Classes.{in_trim}
use Rattle.steps.proofs.quotes.trim_before.Goals as goal

pub overflow_add-result : goal.overflow_add-result
overflow_add-result c = omega (arith, c.char_width.ensures)

pub returns-in-32 : goal.returns-in-32
unfolding in_trim
returns-in-32 c = λ raw. ⊎_elim (λ h. rw h) (λ h. rw h) c.in-32.is

pub returns-in-10 : goal.returns-in-10
unfolding in_trim
returns-in-10 c = λ raw. rw c.in-10.is

pub returns-in_default : goal.returns-in_default
unfolding in_trim
returns-in_default c = λ raw. simp (
  ne_eqb _ _ (λ h. c.in_default.in_default-own.rest.0.1 (inl h)),
  ne_eqb _ _ (λ h. c.in_default.in_default-own.rest.0.1 (inr h)),
  ne_eqb _ _ c.in_default.in_default-own.rest.1,
  c.char_width.ensures,
)
