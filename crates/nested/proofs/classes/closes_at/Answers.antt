-- The record is inside, its kind is the closing bracket's, and its detail is the one that closes s: so `class_of` has it (law `closes_said`).
use native.Mathlib.Omega.{arith}
use mathlib.Core.Path.{sym, ◌∙◌}
use borrow.Author.Tests.{eqb-true}
use Rattle.laws.proofs.Choice.{no_yes}
use Rattle.nested.proofs.Table.{closes_said}
use Rattle.nested.proofs.classes.closes_at.Goals as goal

pub returns-then-k-eq-CLOSE_PAREN : goal.returns-then-k-eq-CLOSE_PAREN
returns-then-k-eq-CLOSE_PAREN c =
    λ q. (
      omega (arith, c.if-at-count.true, c.requires),
      closes_said _ _ c.args.s (sym c.words_at-k.ensures.0 ∙ c.if-k-eq-CLOSE_PAREN.true)
          (sym c.words_at-k.ensures.1 ∙ eqb-true _ _ q ∙ c.closer_of.ensures),
    )

pub returns-else-k-eq-CLOSE_PAREN : goal.returns-else-k-eq-CLOSE_PAREN
returns-else-k-eq-CLOSE_PAREN c = λ q. no_yes q

pub returns-else-at-count : goal.returns-else-at-count
returns-else-at-count c = λ q. no_yes q
