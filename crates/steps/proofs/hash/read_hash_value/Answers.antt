-- The arms are the rows of `in_hash`; else whether the word ends decides.
use mathlib.Core.Path.{sym, ◌∙◌}
use mathlib.Core.Logic.{inl, inr, ⊎_elim}
use borrow.Author.Tests.{ne_eqb}
use Rattle.items.specs.Classes.{in_hash}
use Rattle.steps.proofs.hash.read_hash_value.Goals as goal

pub returns-then-ends_hash : goal.returns-then-ends_hash
unfolding in_hash
returns-then-ends_hash c =
    simp (
      ne_eqb _ _ c.in_default.in_default-own.rest.0.0.1,
      ne_eqb _ _ (λ h. c.in_default.in_default-own.rest.0.1 (inl h)),
      ne_eqb _ _ (λ h. c.in_default.in_default-own.rest.0.1 (inr h)),
      ne_eqb _ _ c.in_default.in_default-own.rest.1,
      sym c.ends_hash.ensures ∙ c.if-ends_hash.true,
      c.hash_then.ensures,
      c.hash_kind.ensures,
    )

pub returns-in-92 : goal.returns-in-92
unfolding in_hash
returns-in-92 c = rw c.in-92.is

pub returns-in-39 : goal.returns-in-39
unfolding in_hash
returns-in-39 c = ⊎_elim (λ h. rw h) (λ h. rw h) c.in-39.is

pub returns-in-44 : goal.returns-in-44
unfolding in_hash
returns-in-44 c = rw c.in-44.is

pub returns-else-ends_hash : goal.returns-else-ends_hash
unfolding in_hash
returns-else-ends_hash c =
    simp (
      ne_eqb _ _ c.in_default.in_default-own.rest.0.0.1,
      ne_eqb _ _ (λ h. c.in_default.in_default-own.rest.0.1 (inl h)),
      ne_eqb _ _ (λ h. c.in_default.in_default-own.rest.0.1 (inr h)),
      ne_eqb _ _ c.in_default.in_default-own.rest.1,
      sym c.ends_hash.ensures ∙ c.if-ends_hash.false,
    )
