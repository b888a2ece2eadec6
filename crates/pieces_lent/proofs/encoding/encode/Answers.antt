-- The words are the marks' own numbers, two bits, and the row of the stage.
use Rattle.pieces_lent.specs.Coding.{coded}
use Rattle.pieces_lent.proofs.encoding.encode.Goals as goal

pub returns : goal.returns
unfolding coded
returns c =
    simp (
      c.stage_row-row.ensures,
      c.bit.ensures,
      c.bit-2.ensures,
    )
