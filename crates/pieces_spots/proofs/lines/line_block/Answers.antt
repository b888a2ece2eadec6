-- Where there is no room for a block the run has none; else its bytes are tested.
use mathlib.Core.Path.{ap, ◌∙◌}
use mathlib.Core.Bool.{Bool, not}
use Rattle.byte_runs.proofs.Blocks.{room, no_room}
use Rattle.pieces_spots.specs.Lines.{of_line}
use Rattle.pieces_spots.proofs.lines.line_block.Goals as goal

pub returns-else-has_block : goal.returns-else-has_block
returns-else-has_block c =
    let a = c.args in
    c.if-has_block.false ∙ no_room a.t.now a.at c.has_block.ensures of_line (ap (λ (b : Bool). not b) c.if-has_block.false)

pub all_plain-requires : goal.all_plain-requires
all_plain-requires c =
    let a = c.args in
    room a.t.now a.at c.has_block.ensures (ap (λ (b : Bool). not b) c.if-has_block.true)
