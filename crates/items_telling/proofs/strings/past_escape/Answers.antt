-- The two bytes are an escape, which leaves the string as it is (Escaped).
use Rattle.std.proofs.lemmas.Grind.{get_or_default_zero}
use native.Mathlib.Omega.{arith}
use mathlib.Core.Path.{subst, ◌∙◌}
use borrow.Author.Tests.{true-ltb}
use Rattle.items_telling.specs.Strings.{Short}
use Rattle.items_telling.proofs.Escaped.{short_passes}
use Rattle.items_telling.proofs.strings.past_escape.Goals as goal

pub returns-in-Some : goal.returns-in-Some
returns-in-Some c =
    let s = c.args.s.now in
    let g = c.in-Some.ensures.lookup in
    let inside = true-ltb _ _ g.0 in
    short_passes s c.args.at (omega (arith, inside)) c.requires.1
    (subst Short (g.1 ∙ get_or_default_zero s _ _ inside) (c.is_short.ensures c.if-is_short.true))
