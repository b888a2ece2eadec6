-- The arms are the rows of `first_of`; else digits decide.
use mathlib.Core.Path.{sym, ◌∙◌}
use mathlib.Core.Logic.{inl, inr, ⊎_elim}
use borrow.Author.Tests.{ne_eqb}
use Rattle.items.specs.Classes.{starts_run, first_of}
use Rattle.steps.proofs.machine.first_phase.Goals as goal

pub returns-then-is_digit : goal.returns-then-is_digit
unfolding first_of starts_run
returns-then-is_digit c =
    simp (
      ne_eqb _ _ c.in_default.in_default-own.rest.0.0.0.0.0.0.0.0.0.0.0.0.0.0.0.1,
      ne_eqb _ _ c.in_default.in_default-own.rest.0.0.0.0.0.0.0.0.0.0.0.0.0.0.1,
      ne_eqb _ _ c.in_default.in_default-own.rest.0.0.0.0.0.0.0.0.0.0.0.0.0.1,
      ne_eqb _ _ c.in_default.in_default-own.rest.0.0.0.0.0.0.0.0.0.0.0.0.1,
      ne_eqb _ _ c.in_default.in_default-own.rest.0.0.0.0.0.0.0.0.0.0.0.1,
      ne_eqb _ _ c.in_default.in_default-own.rest.0.0.0.0.0.0.0.0.0.0.1,
      ne_eqb _ _ c.in_default.in_default-own.rest.0.0.0.0.0.0.0.0.0.1,
      ne_eqb _ _ c.in_default.in_default-own.rest.0.0.0.0.0.0.0.0.1,
      ne_eqb _ _ c.in_default.in_default-own.rest.0.0.0.0.0.0.0.1,
      ne_eqb _ _ c.in_default.in_default-own.rest.0.0.0.0.0.0.1,
      ne_eqb _ _ c.in_default.in_default-own.rest.0.0.0.0.0.1,
      ne_eqb _ _ c.in_default.in_default-own.rest.0.0.0.0.1,
      ne_eqb _ _ (λ h. c.in_default.in_default-own.rest.0.0.0.1 (inl h)),
      ne_eqb _ _ (λ h. c.in_default.in_default-own.rest.0.0.0.1 (inr h)),
      ne_eqb _ _ c.in_default.in_default-own.rest.0.0.1,
      ne_eqb _ _ c.in_default.in_default-own.rest.0.1,
      ne_eqb _ _ c.in_default.in_default-own.rest.1,
      sym c.is_digit.ensures ∙ c.if-is_digit.true,
    )

pub returns-in-59 : goal.returns-in-59
unfolding first_of starts_run
returns-in-59 c = rw c.in-59.is

pub returns-in-34 : goal.returns-in-34
unfolding first_of starts_run
returns-in-34 c = rw c.in-34.is

pub returns-in-44 : goal.returns-in-44
unfolding first_of starts_run
returns-in-44 c = rw c.in-44.is

pub returns-in-35 : goal.returns-in-35
unfolding first_of starts_run
returns-in-35 c = rw c.in-35.is

pub returns-in-40 : goal.returns-in-40
unfolding first_of starts_run
returns-in-40 c = rw c.in-40.is (simp c.single.ensures)

pub returns-in-91 : goal.returns-in-91
unfolding first_of starts_run
returns-in-91 c = rw c.in-91.is (simp c.single-in-91.ensures)

pub returns-in-123 : goal.returns-in-123
unfolding first_of starts_run
returns-in-123 c = rw c.in-123.is (simp c.single-in-123.ensures)

pub returns-in-41 : goal.returns-in-41
unfolding first_of starts_run
returns-in-41 c = rw c.in-41.is (simp c.single-in-41.ensures)

pub returns-in-93 : goal.returns-in-93
unfolding first_of starts_run
returns-in-93 c = rw c.in-93.is (simp c.single-in-93.ensures)

pub returns-in-125 : goal.returns-in-125
unfolding first_of starts_run
returns-in-125 c = rw c.in-125.is (simp c.single-in-125.ensures)

pub returns-in-39 : goal.returns-in-39
unfolding first_of starts_run
returns-in-39 c = rw c.in-39.is (simp c.single-in-39.ensures)

pub returns-in-96 : goal.returns-in-96
unfolding first_of starts_run
returns-in-96 c = rw c.in-96.is (simp c.single-in-96.ensures)

pub returns-in-43 : goal.returns-in-43
unfolding first_of starts_run
returns-in-43 c = ⊎_elim (λ h. rw h) (λ h. rw h) c.in-43.is

pub returns-in-46 : goal.returns-in-46
unfolding first_of starts_run
returns-in-46 c = rw c.in-46.is

pub returns-in-124 : goal.returns-in-124
unfolding first_of starts_run
returns-in-124 c = rw c.in-124.is

pub returns-in-92 : goal.returns-in-92
unfolding first_of starts_run
returns-in-92 c = rw c.in-92.is

pub returns-else-is_digit : goal.returns-else-is_digit
unfolding first_of starts_run
returns-else-is_digit c =
    simp (
      ne_eqb _ _ c.in_default.in_default-own.rest.0.0.0.0.0.0.0.0.0.0.0.0.0.0.0.1,
      ne_eqb _ _ c.in_default.in_default-own.rest.0.0.0.0.0.0.0.0.0.0.0.0.0.0.1,
      ne_eqb _ _ c.in_default.in_default-own.rest.0.0.0.0.0.0.0.0.0.0.0.0.0.1,
      ne_eqb _ _ c.in_default.in_default-own.rest.0.0.0.0.0.0.0.0.0.0.0.0.1,
      ne_eqb _ _ c.in_default.in_default-own.rest.0.0.0.0.0.0.0.0.0.0.0.1,
      ne_eqb _ _ c.in_default.in_default-own.rest.0.0.0.0.0.0.0.0.0.0.1,
      ne_eqb _ _ c.in_default.in_default-own.rest.0.0.0.0.0.0.0.0.0.1,
      ne_eqb _ _ c.in_default.in_default-own.rest.0.0.0.0.0.0.0.0.1,
      ne_eqb _ _ c.in_default.in_default-own.rest.0.0.0.0.0.0.0.1,
      ne_eqb _ _ c.in_default.in_default-own.rest.0.0.0.0.0.0.1,
      ne_eqb _ _ c.in_default.in_default-own.rest.0.0.0.0.0.1,
      ne_eqb _ _ c.in_default.in_default-own.rest.0.0.0.0.1,
      ne_eqb _ _ (λ h. c.in_default.in_default-own.rest.0.0.0.1 (inl h)),
      ne_eqb _ _ (λ h. c.in_default.in_default-own.rest.0.0.0.1 (inr h)),
      ne_eqb _ _ c.in_default.in_default-own.rest.0.0.1,
      ne_eqb _ _ c.in_default.in_default-own.rest.0.1,
      ne_eqb _ _ c.in_default.in_default-own.rest.1,
      sym c.is_digit.ensures ∙ c.if-is_digit.false,
    )
