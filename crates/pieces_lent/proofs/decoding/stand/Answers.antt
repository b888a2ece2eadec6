-- The words' own numbers, two tests, and the stage of the row.
use Rattle.pieces_lent.specs.Coding.{standing}
use Rattle.pieces_lent.proofs.decoding.stand.Goals as goal

pub stage_of-requires : goal.stage_of-requires
stage_of-requires c =
    rw c.row_of.ensures (c.requires.0, c.requires.1.row)

pub returns : goal.returns
unfolding standing
returns c =
    simp (c.stage_of.ensures, c.row_of.ensures)
