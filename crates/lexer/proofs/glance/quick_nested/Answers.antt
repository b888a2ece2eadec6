-- The comment ends at the line and the sign that close it (Sharps), and has no other meaning.
use Rattle.std.proofs.Common.{Option}
use native.Mathlib.Omega.{arith}
use mathlib.Core.Path.{sym, subst}
use Prim.Native.Nat.{ℕ, ◌+◌}
use Rattle.items.specs.Readers.{comment}
use Rattle.items.specs.declared.Phase.TheVariants as ph
use Rattle.steps.specs.Ended.{EndsAs}
use Rattle.lexer.specs.Glance.{GlanceAt}
use Rattle.items_telling.specs.declared.Quick.{Quick}
use Rattle.lexer.proofs.Sharps.{nested_good, nested_told_lem}
use Rattle.lexer.proofs.glance.quick_nested.Goals as goal

pub overflow_add-at : goal.overflow_add-at
overflow_add-at c = omega (arith, c.requires.0, c.requires.1.more)

pub nested_ending-requires : goal.nested_ending-requires
nested_ending-requires c = (omega (arith, c.requires.1.more), nested_good c.args.source.now c.args.at c.requires.1 c.requires.2)

pub returns-in-Some : goal.returns-in-Some
returns-in-Some c report =
    subst (λ (q : Quick). GlanceAt c.args.source.now report c.args.skip c.args.at q) (sym c.bare.ensures)
    (nested_told_lem c.args.source.now c.args.at c.requires.1 report c.args.skip c.in-Some.end c.if-skip.false
    (subst (λ (y : Option ℕ). EndsAs c.args.source.now report (ph.Nest 1) comment (c.args.at + 2) y)
    c.in-Some.is (c.nested_ending.ensures report)))
