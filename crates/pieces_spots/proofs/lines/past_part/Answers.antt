-- The run goes on past bytes that passed their test (laws, Blocks).
use native.Mathlib.Omega.{arith}
use Rattle.laws.proofs.Blocks.{block_on}
use Rattle.pieces_spots.specs.Lines.{of_line}
use Rattle.pieces_spots.proofs.lines.past_part.Goals as goal

pub returns-then-all_plain : goal.returns-then-all_plain
returns-then-all_plain c =
    let a = c.args in
    (omega arith, omega arith, block_on of_line a.t.now a.at a.n c.all_plain.ensures c.if-all_plain.true)
