-- The byte after the sign opens a vector, a nested comment or a character, or is a letter that spells a boolean with it (Sharps).
use native.Mathlib.Omega.{arith}
use mathlib.Core.Path.{sym, subst}
use Rattle.lexer.specs.Glance.{GlanceAt}
use Rattle.items_telling.specs.declared.Quick.{Quick}
use Rattle.lexer.proofs.Sharps.{spells_true, spells_false, vector_told}
use Rattle.lexer.proofs.glance.quick_hash.Goals as goal

pub overflow_add-next : goal.overflow_add-next
overflow_add-next c = omega (arith, c.requires.0, c.requires.1.some)

pub overflow_add-next-in-40 : goal.overflow_add-next-in-40
overflow_add-next-in-40 c = omega (arith, c.requires.0, c.if-source-next.false)

pub quick_boolean-requires : goal.quick_boolean-requires
quick_boolean-requires c =
    (c.requires.0, spells_true c.args.source.now c.args.at c.requires.1 (omega (arith, c.if-source-next.false)) c.in-116.is)

pub quick_boolean-requires-in-102 : goal.quick_boolean-requires-in-102
quick_boolean-requires-in-102 c =
    (c.requires.0, spells_false c.args.source.now c.args.at c.requires.1 (omega (arith, c.if-source-next.false)) c.in-102.is)

pub quick_nested-requires : goal.quick_nested-requires
quick_nested-requires c =
    (c.requires.0, record { sign = c.requires.1; more = omega (arith, c.if-source-next.false); bar = c.in-124.is }, c.requires.2)

pub quick_character-requires : goal.quick_character-requires
quick_character-requires c =
    (c.requires.0, record { sign = c.requires.1; more = omega (arith, c.if-source-next.false); mark = c.in-92.is })

pub returns-in-40 : goal.returns-in-40
returns-in-40 c report =
    subst (λ (q : Quick). GlanceAt c.args.source.now report c.args.skip c.args.at q) (sym c.bracket.ensures)
    (vector_told c.args.source.now c.args.at c.requires.1 report c.args.skip (omega (arith, c.if-source-next.false)) c.in-40.is)

pub returns-in-116 : goal.returns-in-116
returns-in-116 c report = c.quick_boolean.ensures report c.args.skip

pub returns-in-102 : goal.returns-in-102
returns-in-102 c report = c.quick_boolean-in-102.ensures report c.args.skip

pub returns-in-124 : goal.returns-in-124
returns-in-124 c report = c.quick_nested.ensures report

pub returns-in-92 : goal.returns-in-92
returns-in-92 c report = c.quick_character.ensures report c.args.skip
