-- The bytes from the line's start on, without those that continue a character.
use Rattle.findings_render_parts.specs.Spots.{column_number}
use Rattle.findings_render_parts.proofs.places.column_number.Goals as goal

pub returns : goal.returns
unfolding column_number
returns c = rw (c.count.ensures.0, c.line_start-start.ensures.0)
