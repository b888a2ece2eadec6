-- The comment ends where its line does (Tells), and has no other meaning.
use Rattle.std.proofs.Common.{Option}
use native.Mathlib.Omega.{arith}
use mathlib.Core.Path.{sym, subst}
use Prim.Native.Nat.{ℕ, ◌+◌}
use Rattle.items.specs.Readers.{comment}
use Rattle.items.specs.declared.Phase.TheVariants as ph
use Rattle.steps.specs.Ended.{EndsAs}
use Rattle.lexer.specs.Glance.{GlanceAt}
use Rattle.items_telling.specs.declared.Quick.{Quick}
use Rattle.lexer.proofs.Tells.{begins_inside, ends_here, comment-told}
use Rattle.lexer.proofs.glance.quick_line.Goals as goal

pub overflow_add-at : goal.overflow_add-at
overflow_add-at c = omega (arith, c.requires.0, begins_inside c.args.source.now c.args.at (c.args.at + 1) ph.InLine c.requires.1)

pub line_ending-requires : goal.line_ending-requires
line_ending-requires c = (omega (arith, begins_inside c.args.source.now c.args.at (c.args.at + 1) ph.InLine c.requires.1), c.requires.2)

pub returns-in-Some : goal.returns-in-Some
returns-in-Some c report =
    subst (λ (q : Quick). GlanceAt c.args.source.now report c.args.skip c.args.at q) (sym c.bare.ensures)
    (comment-told c.args.source.now report c.args.skip c.args.at (c.args.at + 1) c.in-Some.end ph.InLine c.if-skip.false c.requires.1
    (ends_here c.args.source.now report c.args.at (c.args.at + 1) ph.InLine comment c.in-Some.end c.requires.1
    (subst (λ (y : Option ℕ). EndsAs c.args.source.now report ph.InLine comment (c.args.at + 1) y)
    c.in-Some.is (c.line_ending.ensures report))))
