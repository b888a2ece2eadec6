-- The definition's text of an identifier in vertical lines without an escape is what stands between them (Ends).
use native.Mathlib.Omega.{arith}
use mathlib.Core.Path.{refl, sym, ◌∙◌, subst}
use borrow.Author.Tests.{not-false}
use Rattle.items_telling.specs.declared.Quick.{Quick}
use Rattle.pieces_spots.specs.Spots.{TellsAt}
use Rattle.pieces_spots.proofs.Ends as ends
use Rattle.pieces_spots.proofs.ending.tell_lined.Goals as goal

pub returns-then-not-is_lined : goal.returns-then-not-is_lined
returns-then-not-is_lined c = λ which detail b e. tt

pub returns-then-has_escape : goal.returns-then-has_escape
returns-then-has_escape c = λ which detail b e. tt

pub overflow_add-at : goal.overflow_add-at
overflow_add-at c = let h = c.is_lined.ensures (not-false _ c.if-not-is_lined.false-raw) in omega (arith, h.0)

pub overflow_sub-end : goal.overflow_sub-end
overflow_sub-end c = let h = c.is_lined.ensures (not-false _ c.if-not-is_lined.false-raw) in omega (arith, h.0)

pub returns : goal.returns
returns c = λ which detail b e.
    let lined = c.is_lined.ensures (not-false _ c.if-not-is_lined.false-raw) in
    subst (λ (q : Quick). TellsAt 25 which detail b c.args.at c.args.raw.now q) (sym c.named.ensures)
    (ends.lined_ends _ _ _ _ _ _ _ refl e lined.1 (sym c.has_escape.ensures ∙ c.if-has_escape.false) c.requires)
