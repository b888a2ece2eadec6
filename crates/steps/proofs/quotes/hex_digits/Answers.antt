-- The closer, what breaks the digits off, a digit: the tests of `in_hex` in its order.
use mathlib.Core.Path.{sym, ◌∙◌}
use borrow.Author.Tests.{eq-eqb, ne_eqb}
use Rattle.items.specs.Classes.{in_hex}
use Rattle.steps.proofs.Characters.{hex_breaks, hex_goes}
use Rattle.steps.proofs.quotes.hex_digits.Goals as goal

pub returns-then-c-closer : goal.returns-then-c-closer
unfolding in_hex
returns-then-c-closer c = simp (eq-eqb _ _ c.if-c-closer.true, c.close_hex.ensures, c.char_width.ensures)

pub returns-then-breaks_hex : goal.returns-then-breaks_hex
returns-then-breaks_hex c =
    simp (
      hex_breaks c.args.k _
          c.args.c (ne_eqb _ _ c.if-c-closer.false) (sym c.breaks_hex.ensures ∙ c.if-breaks_hex.true),
      c.broken.ensures,
    )

pub returns : goal.returns
returns c =
    simp (hex_goes c.args.k _ c.args.c (ne_eqb _ _ c.if-c-closer.false) (sym c.breaks_hex.ensures ∙ c.if-breaks_hex.false))
