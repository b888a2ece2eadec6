-- `closed_hex` goes by the cases of `scalar_of`, which is asked for the value of the digits.
use mathlib.Core.Path.{sym, ap, ◌∙◌}
use Rattle.items.specs.Readers.{scalar_of}
use Rattle.escapes.proofs.elements.closed_hex.Goals as goal

pub returns-in-Ok : goal.returns-in-Ok
returns-in-Ok c = rw (sym (ap scalar_of c.hex_value.ensures)
    ∙ sym c.scalar_of.ensures ∙ c.in-Ok.is) c.give.ensures

pub returns-in-Err : goal.returns-in-Err
returns-in-Err c = rw (sym (ap scalar_of c.hex_value.ensures) ∙ sym c.scalar_of.ensures ∙ c.in-Err.is) c.give-in-Err.ensures
