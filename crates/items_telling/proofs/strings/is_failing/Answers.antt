-- The arms are the rows of `after_backslash`.
use mathlib.Core.Logic.{inl, inr}
use native.Mathlib.Omega.{arith}
use borrow.Author.Tests.{ne_eqb}
use Rattle.laws.proofs.Choice.{no_yes}
use Rattle.items.specs.Classes.{after_backslash}
use Rattle.items_telling.proofs.strings.is_failing.Goals as goal

pub returns-then-c-ge-ASCII_END : goal.returns-then-c-ge-ASCII_END
returns-then-c-ge-ASCII_END c = no_yes

pub returns-in-34 : goal.returns-in-34
returns-in-34 c = no_yes

pub returns-in-97 : goal.returns-in-97
returns-in-97 c = no_yes

pub returns-in-98 : goal.returns-in-98
returns-in-98 c = no_yes

pub returns-in-120 : goal.returns-in-120
returns-in-120 c = no_yes

pub returns-in-32 : goal.returns-in-32
returns-in-32 c = no_yes

pub returns-in-10 : goal.returns-in-10
returns-in-10 c = no_yes

pub returns-in_default : goal.returns-in_default
unfolding after_backslash
returns-in_default c t =
    let r = c.in_default.in_default-own.rest in (
      omega (arith, c.if-c-ge-ASCII_END.false),
      simp (
        ne_eqb _ _ (λ h. r.0.0.0.0.0.1 (inl h)),
        ne_eqb _ _ (λ h. r.0.0.0.0.0.1 (inr (inl h))),
        ne_eqb _ _ (λ h. r.0.0.0.0.0.1 (inr (inr h))),
        ne_eqb _ _ (λ h. r.0.0.0.0.1 (inl h)),
        ne_eqb _ _ (λ h. r.0.0.0.0.1 (inr (inl h))),
        ne_eqb _ _ (λ h. r.0.0.0.0.1 (inr (inr (inl h)))),
        ne_eqb _ _ (λ h. r.0.0.0.0.1 (inr (inr (inr h)))),
        ne_eqb _ _ (λ h. r.0.0.0.1 (inl h)),
        ne_eqb _ _ (λ h. r.0.0.0.1 (inr h)),
        ne_eqb _ _ (λ h. r.0.0.1 (inl h)),
        ne_eqb _ _ (λ h. r.0.0.1 (inr h)),
        ne_eqb _ _ (λ h. r.0.1 (inl h)),
        ne_eqb _ _ (λ h. r.0.1 (inr h)),
        ne_eqb _ _ r.1,
      ),
    )
