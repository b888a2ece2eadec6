-- `hex_part` goes by the cases of `scalar_of`; a place where the digits fail is one of the bytes' places.
use Rattle.std.proofs.Common.{Err}
use mathlib.Core.Path.{sym, ap, ◌∙◌}
use native.Mathlib.Omega.{arith}
use Rattle.items.specs.Readers.{scalar_of}
use Rattle.spellings.proofs.Forms.{part_place}
use Rattle.spellings.proofs.characters.hex_part.Goals as goal

pub overflow_add-result : goal.overflow_add-result
overflow_add-result c =
    let t = c.args.t.now in
    let good = c.well_formed in omega (
      arith,
      part_place t c.args.from
          c.args.to _ _ _ c.requires.0 c.requires.1 (sym (ap scalar_of c.hex_value.ensures)
          ∙ sym c.scalar_of.ensures ∙ c.in-Err-WrongAt.is ∙ ap Err c.in-Err-WrongAt.field-0-is),
    )

pub returns-in-Err-WrongAt : goal.returns-in-Err-WrongAt
returns-in-Err-WrongAt c = rw (sym (ap scalar_of c.hex_value.ensures) ∙ sym c.scalar_of.ensures ∙ c.in-Err-WrongAt.is ∙ ap Err c.in-Err-WrongAt.field-0-is)
