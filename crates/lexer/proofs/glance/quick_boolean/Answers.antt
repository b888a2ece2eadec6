-- The sign and the letter are the boolean where the byte after them ends it (Sharps).
use native.Mathlib.Omega.{arith}
use mathlib.Core.Path.{refl, sym, subst}
use Prim.Native.Nat.{◌+◌}
use lib.ListN.{get_or}
use Rattle.lexer.specs.Glance.{GlanceAt}
use Rattle.items_telling.specs.declared.Quick.{Quick}
use Rattle.lexer.proofs.Sharps.{boolean_told}
use Rattle.lexer.proofs.glance.quick_boolean.Goals as goal

pub overflow_add-end : goal.overflow_add-end
overflow_add-end c = omega (arith, c.requires.0, c.requires.1.more)

pub returns-then-ends_hash : goal.returns-then-ends_hash
returns-then-ends_hash c report skip =
    subst (λ (q : Quick). GlanceAt c.args.source.now report skip c.args.at q) (sym c.bare.ensures)
    (boolean_told c.args.source.now
    c.args.at c.args.value c.requires.1 report skip (omega (arith, c.if-source-end.false))
    (get_or c.args.source.now (c.args.at + 2) 0) refl (c.ends_hash.ensures c.if-ends_hash.true))
