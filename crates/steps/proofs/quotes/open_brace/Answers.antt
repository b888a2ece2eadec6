-- A brace, the closer, what breaks the digits off, a digit: the tests of the machine in its order.
use mathlib.Core.Path.{sym, ◌∙◌}
use borrow.Author.Tests.{eq-eqb, ne_eqb}
use Rattle.items.specs.Classes.{in_hex}
use Rattle.steps.proofs.Characters.{hex_breaks, hex_goes, with_length}
use Rattle.steps.proofs.quotes.open_brace.Goals as goal

pub returns-then-c-eq-OPEN_CURLY : goal.returns-then-c-eq-OPEN_CURLY
returns-then-c-eq-OPEN_CURLY c = rw (with_length c.args.raw.now c.args.c _ c.char_width.ensures) (simp (eq-eqb _ _ c.if-c-eq-OPEN_CURLY.true))

pub returns-then-c-eq-SEMICOLON : goal.returns-then-c-eq-SEMICOLON
unfolding in_hex
returns-then-c-eq-SEMICOLON c = simp (ne_eqb _ _ c.if-c-eq-OPEN_CURLY.false, eq-eqb _ _ c.if-c-eq-SEMICOLON.true, c.failing_at.ensures, c.char_width-then-c-eq-SEMICOLON.ensures)

pub returns-then-breaks_hex : goal.returns-then-breaks_hex
returns-then-breaks_hex c =
    simp (
      ne_eqb _ _ c.if-c-eq-OPEN_CURLY.false,
      hex_breaks c.args.k _
          c.args.c (ne_eqb _ _ c.if-c-eq-SEMICOLON.false) (sym c.breaks_hex.ensures ∙ c.if-breaks_hex.true),
      c.broken.ensures,
    )

pub returns : goal.returns
returns c =
    simp (
      ne_eqb _ _ c.if-c-eq-OPEN_CURLY.false,
      hex_goes c.args.k _ c.args.c (ne_eqb _ _ c.if-c-eq-SEMICOLON.false) (sym c.breaks_hex.ensures ∙ c.if-breaks_hex.false),
    )
