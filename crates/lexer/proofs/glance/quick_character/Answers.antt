-- The sign, the backslash and one character of ASCII are that character where the byte after them ends it (LoneCharacters).
use native.Mathlib.Omega.{arith}
use mathlib.Core.Path.{refl, sym, subst}
use Prim.Native.Nat.{◌+◌}
use lib.ListN.{get_or}
use Rattle.lexer.specs.Glance.{GlanceAt}
use Rattle.items_telling.specs.declared.Quick.{Quick}
use Rattle.lexer.proofs.LoneCharacters.{lone_told}
use Rattle.lexer.proofs.glance.quick_character.Goals as goal

pub overflow_add-end : goal.overflow_add-end
overflow_add-end c = omega (arith, c.requires.0, c.requires.1.more)

pub returns-then-ends_hash : goal.returns-then-ends_hash
returns-then-ends_hash c report skip =
    let s = c.args.source.now in
    let at = c.args.at in
    subst (λ (q : Quick). GlanceAt s report skip at q) (sym c.bare.ensures)
    (lone_told s at c.requires.1 (get_or s (at + 2) 0) refl (omega (arith, c.if-c-ge-ASCII_END.false))
    (omega (arith, c.if-source-end.false))
    (get_or s (at + 3) 0) refl (c.ends_hash.ensures c.if-ends_hash.true) report skip)
