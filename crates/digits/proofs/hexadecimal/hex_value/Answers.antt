-- Each return is a case of `hex_value`: nothing, a lone `+`, digits after a `+`, digits.
use Rattle.digits.proofs.HexDigits.{hex_empty, hex_plain, hex_lone, hex_plus}
use mathlib.Core.Path.{◌∙◌}
use Rattle.digits.proofs.hexadecimal.hex_value.Goals as goal

pub returns-then-t-eq0 : goal.returns-then-t-eq0
returns-then-t-eq0 c = hex_empty _ c.if-t-eq0.true

pub returns-then-t-eq1 : goal.returns-then-t-eq1
returns-then-t-eq1 c = hex_lone _ c.if-t-eq0.false c.if-t-eq43.true c.if-t-eq1.true

pub returns-then-t-eq43 : goal.returns-then-t-eq43
returns-then-t-eq43 c =
    c.hex_digits.ensures
    ∙ hex_plus _ c.if-t-eq0.false c.if-t-eq43.true c.if-t-eq1.false

pub returns : goal.returns
returns c = c.hex_digits-2.ensures ∙ hex_plain _ c.if-t-eq0.false c.if-t-eq43.false
